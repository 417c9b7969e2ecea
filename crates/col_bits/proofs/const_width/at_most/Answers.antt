use Rattle.std.proofs.Common.{leb, arith, w32}
use Rattle.std.proofs.lemmas.Simd.{bitmask_splat}
use Rattle.col_bits.proofs.const_width.at_most.Goals as goal

pub returns : goal.returns
returns c = bitmask_splat w32 leb c.args.lanes 64 c.args.span c.fits-lanes.0 (omega arith)
