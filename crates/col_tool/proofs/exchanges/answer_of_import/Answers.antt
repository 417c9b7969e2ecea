use Rattle.std.proofs.Common.{refl}
use Rattle.std.proofs.lemmas.Result.{err_from_is_err_and}
use Rattle.col_tool.proofs.AnswerLemmas.{delivered-other}
use Rattle.col_tool.proofs.CheckLemmas.{keeps-none}
use Rattle.col_tool.proofs.ExchangedStatuses.{delivered-imports, import-no_write, refusals-import}
use Rattle.col_tool.proofs.ImportLemmas.{import-delivered, import-refused}
use Rattle.col_tool.proofs.exchanges.answer_of_import.Goals as goal

pub returns-in_err-made-clause-leaves : goal.returns-in_err-made-clause-leaves
returns-in_err-made-clause-leaves g c =
    let p = err_from_is_err_and c.from_residual.result c.from_residual.ensures.1 in
    rw (p.1, p.2) (import-refused _ _ _ _ c.in_err-made.ensures.among c.in_err-made.ensures.made)

pub returns-in_err-made-clause-keeps : goal.returns-in_err-made-clause-keeps
returns-in_err-made-clause-keeps g c = keeps-none _ _ _

pub returns-in_err-made-clause-read_fault : goal.returns-in_err-made-clause-read_fault
returns-in_err-made-clause-read_fault g c =
    let p = err_from_is_err_and c.from_residual.result c.from_residual.ensures.1 in
    rw (p.1, p.2) c.in_err-made.ensures.read_fault

pub returns-in_err-made-clause-write_fault : goal.returns-in_err-made-clause-write_fault
returns-in_err-made-clause-write_fault g c =
    let p = err_from_is_err_and c.from_residual.result c.from_residual.ensures.1 in
    rw (p.1, p.2) (λ five. absurd (import-no_write _ c.in_err-made.ensures.among five))

pub returns-in_err-made-clause-among : goal.returns-in_err-made-clause-among
returns-in_err-made-clause-among g c =
    let p = err_from_is_err_and c.from_residual.result c.from_residual.ensures.1 in
    rw (p.1, p.2) (refusals-import _ c.in_err-made.ensures.among)

pub returns-in_err-made-clause-ended : goal.returns-in_err-made-clause-ended
returns-in_err-made-clause-ended g c =
    let p = err_from_is_err_and c.from_residual.result c.from_residual.ensures.1 in
    rw (p.1, p.2) c.in_err-made.ensures.refused

pub returns-clause-leaves : goal.returns-clause-leaves
returns-clause-leaves g c = import-delivered _ _ _ _ _ c.in_ok-made.made _ c.in_ok-made.ensures.made c.deliver.ensures.delivers

pub returns-clause-read_fault : goal.returns-clause-read_fault
returns-clause-read_fault g c = λ four. absurd (delivered-other 4 _ refl c.deliver.ensures.delivers.among four)

pub returns-clause-among : goal.returns-clause-among
returns-clause-among g c = delivered-imports _ c.deliver.ensures.delivers.among

pub returns-clause-ended : goal.returns-clause-ended
returns-clause-ended g c = λ memory fault long. c.in_ok-made.ensures.ended
