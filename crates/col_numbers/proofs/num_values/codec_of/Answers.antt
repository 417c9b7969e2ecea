use Rattle.std.proofs.Common.{arith}
use Rattle.col_numbers.proofs.ImageLemmas.{values64-nothing, values64-no_codec}
use Rattle.col_numbers.proofs.num_values.codec_of.Goals as goal

pub returns-in_default-clause-none : goal.returns-in_default-clause-none
returns-in_default-clause-none c = values64-nothing c.args.bytes.now (omega (arith, c.in_default.len_below))

pub returns-clause-none : goal.returns-clause-none
returns-clause-none c =
    values64-no_codec c.args.bytes.now c.try_from_code.result (omega (arith, c.in-len1-up.len_at_least))
    c.try_from_code.ensures
