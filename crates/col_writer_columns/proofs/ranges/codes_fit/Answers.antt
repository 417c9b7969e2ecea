use Rattle.std.proofs.Common.{◌^◌}
use Rattle.col_writer_columns.proofs.SoundLemmas.{fit-all}
use Rattle.col_writer_columns.proofs.ranges.codes_fit.Goals as goal

pub returns : goal.returns
returns c = fit-all (2 ^ 64) c.args.codes.now (λ k. (c.type_inv.codes k).fits)
