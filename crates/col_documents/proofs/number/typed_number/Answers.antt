use Rattle.std.proofs.Common.{refl}
use Rattle.col_documents.proofs.NumberLemmas.{far_of_both}
use Rattle.col_documents.proofs.number.typed_number.Goals as goal

pub returns-in-Err : goal.returns-in-Err
returns-in-Err c =
    far_of_both c.args.digits.now c.parse_i64.result c.parse_u64.result c.requires c.parse_i64.ensures (rw c.in_default.is refl)
    c.parse_u64.ensures (rw c.in-Err.is refl)
