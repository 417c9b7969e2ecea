use Rattle.std.proofs.lemmas.Result.{err_from_is_err_and}
use Rattle.col_disk.proofs.PutLemmas.{one_write, put_durable, then_sync}
use Rattle.col_disk.proofs.disk.write_synced.Goals as goal

pub returns-in_err-write_at-clause-puts : goal.returns-in_err-write_at-clause-puts
returns-in_err-write_at-clause-puts g c =
    let p = err_from_is_err_and c.from_residual.result c.from_residual.ensures.1 in
    rw (p.1, p.2) (one_write c.args.pos c.args.bytes.now _ (g.met.D.Disk.laws c.args.disk.now) c.in_err-write_at.ensures)

pub returns-clause-durable : goal.returns-clause-durable
returns-clause-durable g c =
    let puts = one_write c.args.pos c.args.bytes.now _ (g.met.D.Disk.laws c.args.disk.now) c.in_ok-write_at.ensures in
    put_durable c.args.pos c.args.bytes.now c.sync.result puts c.sync.ensures

pub returns-clause-puts : goal.returns-clause-puts
returns-clause-puts g c =
    let puts = one_write c.args.pos c.args.bytes.now _ (g.met.D.Disk.laws c.args.disk.now) c.in_ok-write_at.ensures in
    then_sync c.args.pos c.args.bytes.now c.sync.result puts c.sync.ensures (g.met.D.Disk.laws c.write_at.new.self)
