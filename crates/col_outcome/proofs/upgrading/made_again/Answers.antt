use Rattle.std.proofs.Common.{◌∙◌}
use Rattle.std.proofs.lemmas.Result.{err_from_is_err_and}
use Rattle.col_outcome.proofs.UpgradingLemmas.{memory-refuses, upgrade-made, want-refuses}
use Rattle.col_outcome.proofs.upgrading.made_again.Goals as goal

pub returns-in_err-upgrade-clause-answer : goal.returns-in_err-upgrade-clause-answer
returns-in_err-upgrade-clause-answer g c =
    let p = err_from_is_err_and c.from_residual.result c.from_residual.ensures.1 in
    rw (p.1, p.2) (memory-refuses c.args.reader.now.file c.upgrade.new.reader.file c.new-file.result c.upgrade.new.output
    c.in_err-upgrade.field-0.0 c.in_err-upgrade.ensures.answer)

pub returns-in_err-file-clause-answer : goal.returns-in_err-file-clause-answer
returns-in_err-file-clause-answer g c =
    let p = err_from_is_err_and c.from_residual-in_err-file.result c.from_residual-in_err-file.ensures.1 in
    rw p.1 (want-refuses c.args.reader.now.file c.upgrade.new.reader.file p.0 p.2)

pub returns-in_err-report-clause-answer : goal.returns-in_err-report-clause-answer
returns-in_err-report-clause-answer g c =
    let p = err_from_is_err_and c.from_residual-in_err-report.result c.from_residual-in_err-report.ensures.1 in
    rw p.1 (want-refuses c.args.reader.now.file c.upgrade.new.reader.file p.0 p.2)

pub returns-clause-answer : goal.returns-clause-answer
returns-clause-answer g c =
    upgrade-made c.args.reader.now.file c.upgrade.new.reader.file c.new-file.result c.upgrade.new.output _
    (record { file = c.in_ok-file.file; report = c.in_ok-report.report }) c.new-file.ensures
    (c.in_ok-file.ensures.ok ∙ c.into_bytes.ensures) c.in_ok-upgrade.ensures.answer c.in_ok-report.ensures
