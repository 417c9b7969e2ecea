use Rattle.std.proofs.Common.{refl}
use Rattle.std.proofs.lemmas.Result.{err_from_is_err_and}
use Rattle.col_tool.proofs.AnswerLemmas.{delivered-other, refused-is}
use Rattle.col_tool.proofs.Left.{leaves_delivered}
use Rattle.col_tool.proofs.RefusedLemmas.{delivered-among, refusals-among}
use Rattle.col_tool.proofs.scripts.answer_of_number.Goals as goal

pub returns-in_err-made-clause-leaves : goal.returns-in_err-made-clause-leaves
returns-in_err-made-clause-leaves g c =
    let p = err_from_is_err_and c.from_residual.result c.from_residual.ensures.1 in
    rw (p.1, p.2) (refused-is _ _ _ _ c.in_err-made.ensures.among c.in_err-made.ensures.made)

pub returns-in_err-made-clause-no_read_fault : goal.returns-in_err-made-clause-no_read_fault
returns-in_err-made-clause-no_read_fault g c =
    let p = err_from_is_err_and c.from_residual.result c.from_residual.ensures.1 in
    rw (p.1, p.2) c.in_err-made.ensures.no_read_fault

pub returns-in_err-made-clause-no_invalid_data : goal.returns-in_err-made-clause-no_invalid_data
returns-in_err-made-clause-no_invalid_data g c =
    let p = err_from_is_err_and c.from_residual.result c.from_residual.ensures.1 in
    rw (p.1, p.2) c.in_err-made.ensures.no_invalid_data

pub returns-in_err-made-clause-among : goal.returns-in_err-made-clause-among
returns-in_err-made-clause-among g c =
    let p = err_from_is_err_and c.from_residual.result c.from_residual.ensures.1 in
    rw (p.1, p.2) (refusals-among _ c.in_err-made.ensures.among)

pub returns-clause-leaves : goal.returns-clause-leaves
returns-clause-leaves g c = leaves_delivered _ _ _ _ c.in_ok-made.made _ _ c.in_ok-made.ensures.made c.deliver.ensures.delivers

pub returns-clause-no_read_fault : goal.returns-clause-no_read_fault
returns-clause-no_read_fault g c = delivered-other 4 _ refl c.deliver.ensures.delivers.among

pub returns-clause-no_invalid_data : goal.returns-clause-no_invalid_data
returns-clause-no_invalid_data g c = delivered-other 6 _ refl c.deliver.ensures.delivers.among

pub returns-clause-among : goal.returns-clause-among
returns-clause-among g c = delivered-among _ c.deliver.ensures.delivers.among
