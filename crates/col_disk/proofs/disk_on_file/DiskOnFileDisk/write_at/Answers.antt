use Rattle.std.proofs.Common.{Ok, rules, arith}
use Rattle.std.proofs.lemmas.Result.{err_from_is_err_and}
use Rattle.col_disk.proofs.UntoldLemmas.{untold_writes}
use Rattle.col_disk.proofs.disk_on_file.DiskOnFileDisk.write_at.Goals as goal

pub returns-in_default : goal.returns-in_default
returns-in_default g c =
    untold_writes c.counted.result _ _ _ _ _ _ (omega arith) c.counted.ensures.failed (search rules) (search rules) c.counted.ensures.cause

pub returns-in_err-counted : goal.returns-in_err-counted
returns-in_err-counted g c =
    let p = err_from_is_err_and c.from_residual.result c.from_residual.ensures.1 in
    rw (p.1, p.2) (untold_writes _ _ _ _ _ _ _ (omega arith) c.in_err-counted.ensures.failed tt tt c.in_err-counted.ensures.cause)

pub returns : goal.returns
returns g c =
    untold_writes (Ok tt) _ _ _ _ _ _ (omega (arith, c.max-self.ensures)) tt (omega (arith, c.max-self.ensures, c.in-Some.ensures.1))
    (omega (arith, c.in-Some.ensures.0)) c.in_ok-counted.ensures.cause
