use Rattle.col_model.proofs.PackedBitLaws.{packed-bits}
use Rattle.col_model.proofs.laws.packed_lists_have_bits.Goals as goal

pub returns : goal.returns
returns c = packed-bits
