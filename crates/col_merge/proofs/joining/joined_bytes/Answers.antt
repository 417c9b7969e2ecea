use Rattle.std.proofs.lemmas.Result.{err_from_is_err_and}
use Rattle.col_merge.proofs.OpenTurnLemmas.{slot-cause}
use Rattle.col_merge.proofs.joining.joined_bytes.Goals as goal

pub returns-in_err-column_type-clause-causes : goal.returns-in_err-column_type-clause-causes
returns-in_err-column_type-clause-causes c =
    let p = err_from_is_err_and c.from_residual.result c.from_residual.ensures.1 in
    rw (p.1, p.2) (slot-cause c.new-bytes.result c.join_slot.new.sink c.in_err-column_type.field-0.0 c.in_err-column_type.ensures.causes)
