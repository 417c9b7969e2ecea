use Rattle.col_outcome.proofs.UpgradingLemmas.{upgrades-opened, upgrades-unopened}
use Rattle.col_outcome.proofs.upgrading.upgrade_file.Goals as goal

pub returns-in-Ok : goal.returns-in-Ok
returns-in-Ok g c = upgrades-opened _ _ _ _ c.in-Ok.ensures c.upgrade_opened.ensures.answer c.upgrade_opened.ensures.reads

pub returns-in-Err : goal.returns-in-Err
returns-in-Err g c = upgrades-unopened _ _ _ c.in-Err.ensures
