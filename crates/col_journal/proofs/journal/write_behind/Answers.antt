use Rattle.std.proofs.lemmas.Result.{err_from_is_err_and}
use Rattle.col_journal.proofs.BehindLemmas.{put_behind, stopped_bytes, stopped_head}
use Rattle.col_journal.specs.Journal.{Change}
use Rattle.col_journal.proofs.journal.write_behind.Goals as goal

pub returns-in_err-write_at : goal.returns-in_err-write_at
returns-in_err-write_at g c =
    let p = err_from_is_err_and c.from_residual.result c.from_residual.ensures.1 in
    let change : Change = record { kind = c.args.kind; bytes = c.args.bytes.now } in
    rw (p.1, p.2) (stopped_head c.args.gate change _ c.head_of-head.ensures _ (g.met.D.Disk.laws c.args.disk.now)
    c.requires.within _ c.in_err-write_at.ensures)

pub returns-in_err-write_at-2 : goal.returns-in_err-write_at-2
returns-in_err-write_at-2 g c =
    let p = err_from_is_err_and c.from_residual-in_err-write_at-2.result c.from_residual-in_err-write_at-2.ensures.1 in
    let change : Change = record { kind = c.args.kind; bytes = c.args.bytes.now } in
    rw (p.1, p.2) (stopped_bytes c.args.gate change _ c.head_of-head.ensures _ (g.met.D.Disk.laws c.args.disk.now) c.requires.within _
    (g.met.D.Disk.laws c.write_at.new.self) c.in_ok-write_at.ensures c.in_err-write_at-2.ensures)

pub returns : goal.returns
returns g c =
    let change : Change = record { kind = c.args.kind; bytes = c.args.bytes.now } in
    put_behind c.args.gate change _ c.head_of-head.ensures _ (g.met.D.Disk.laws c.args.disk.now) c.requires.within c.write_at-3.result
    (g.met.D.Disk.laws c.write_at.new.self) (g.met.D.Disk.laws c.write_at-2.new.self)
    c.in_ok-write_at.ensures c.in_ok-write_at-2.ensures c.write_at-3.ensures
