use Rattle.std.proofs.lemmas.Simd.{zip2_splat}
use Rattle.col_bits.proofs.const_width.above.Goals as goal

pub returns : goal.returns
returns c = zip2_splat _ c.args.lanes 64 c.args.low c.fits-lanes.0
