use Rattle.col_outcome.proofs.CheckingLemmas.{checks-opened, checks-unopened}
use Rattle.col_outcome.proofs.checking.check_file.Goals as goal

pub returns-in-Ok : goal.returns-in-Ok
returns-in-Ok g c =
    checks-opened _ _ _ _ c.in-Ok.ensures c.check_opened.ensures.answer c.check_opened.ensures.reads

pub returns-in-Err : goal.returns-in-Err
returns-in-Err g c = checks-unopened _ _ _ c.in-Err.ensures
