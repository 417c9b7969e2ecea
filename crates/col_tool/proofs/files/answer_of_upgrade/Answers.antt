use Rattle.std.proofs.Common.{refl}
use Rattle.std.proofs.lemmas.Result.{err_from_is_err_and}
use Rattle.col_tool.proofs.AnswerLemmas.{delivered-other}
use Rattle.col_tool.proofs.CheckLemmas.{keeps-none}
use Rattle.col_tool.proofs.InputLemmas.{refusal-checks, refusal-unwritten}
use Rattle.col_tool.proofs.RefusedLemmas.{delivered-checks}
use Rattle.col_tool.proofs.UpgradeLemmas.{upgrade-delivered, upgrade-refusal, upgrade-refused, upgrade-rose, upgrade-kept, upgrade-reads}
use Rattle.col_tool.proofs.files.answer_of_upgrade.Goals as goal

pub returns-in_err-made-clause-leaves : goal.returns-in_err-made-clause-leaves
returns-in_err-made-clause-leaves g c =
    let p = err_from_is_err_and c.from_residual.result c.from_residual.ensures.1 in
    rw (p.1, p.2) (upgrade-refused _ _ _ _ _ c.in_err-made.ensures)

pub returns-in_err-made-clause-keeps : goal.returns-in_err-made-clause-keeps
returns-in_err-made-clause-keeps g c = keeps-none _ _ _

pub returns-in_err-made-clause-read_fault : goal.returns-in_err-made-clause-read_fault
returns-in_err-made-clause-read_fault g c =
    let p = err_from_is_err_and c.from_residual.result c.from_residual.ensures.1 in
    rw (p.1, p.2) (upgrade-rose _ _ _ c.in_err-made.ensures)

pub returns-in_err-made-clause-write_fault : goal.returns-in_err-made-clause-write_fault
returns-in_err-made-clause-write_fault g c =
    let p = err_from_is_err_and c.from_residual.result c.from_residual.ensures.1 in
    rw (p.1, p.2) (λ five. absurd (refusal-unwritten _ (upgrade-refusal _ _ _ c.in_err-made.ensures) five))

pub returns-in_err-made-clause-among : goal.returns-in_err-made-clause-among
returns-in_err-made-clause-among g c =
    let p = err_from_is_err_and c.from_residual.result c.from_residual.ensures.1 in
    rw (p.1, p.2) (refusal-checks _ (upgrade-refusal _ _ _ c.in_err-made.ensures))

pub returns-in_err-made-clause-handles : goal.returns-in_err-made-clause-handles
returns-in_err-made-clause-handles g c = upgrade-kept _ _ _ c.in_err-made.ensures

pub returns-clause-leaves : goal.returns-clause-leaves
returns-clause-leaves g c = upgrade-delivered _ _ _ _ _ _ c.in_ok-made.made _ c.in_ok-made.ensures c.deliver.ensures.delivers

pub returns-clause-read_fault : goal.returns-clause-read_fault
returns-clause-read_fault g c = λ four. absurd (delivered-other 4 _ refl c.deliver.ensures.delivers.among four)

pub returns-clause-among : goal.returns-clause-among
returns-clause-among g c = delivered-checks _ c.deliver.ensures.delivers.among

pub returns-clause-handles : goal.returns-clause-handles
returns-clause-handles g c = upgrade-kept _ _ _ c.in_ok-made.ensures

pub returns-in_err-made-clause-reads : goal.returns-in_err-made-clause-reads
returns-in_err-made-clause-reads g c = upgrade-reads _ _ _ c.in_err-made.ensures

pub returns-clause-reads : goal.returns-clause-reads
returns-clause-reads g c = upgrade-reads _ _ _ c.in_ok-made.ensures
