use Rattle.col_set_tool.proofs.IllLemmas.{ran-ill}
use Rattle.col_set_tool.proofs.UnopenedLemmas.{unopened}
use Rattle.col_set_tool.proofs.UnreadLemmas.{unread}
use Rattle.col_set_tool.proofs.WellLemmas.{ran-well}
use Rattle.col_set_tool.proofs.run.run_set.Goals as goal
use Rattle.col_set_tool.proofs.run.run_set.Goals.{in-Ok-run_whole, in-Err-run_whole}

pub returns-in-Err : goal.returns-in-Err
returns-in-Err g c =
    let script = c.args.script.now in
    let read = c.read_steps.new.script in
    unread (g.D.Disk.seen c.args.disk) (g.met.D.Disk.laws c.args.disk) (g.S.Source.left script) (g.S.Source.left read)
    (g.S.Source.faults script) (g.S.Source.faults read) (g.K.Sink.seen c.args.output.now) (g.R.Sink.seen c.args.report.now)
    c.in-Err.status c.in-Err.ensures.refused c.in-Err.ensures.later c.in-Err.ensures.taken c.in-Err.ensures.stopped

pub returns-in-Err-open : goal.returns-in-Err-open
returns-in-Err-open g c =
    let script = c.args.script.now in
    let read = c.read_steps.new.script in
    let a = c.in-Ok.ensures.steps in
    rw c.code.ensures (unopened g.D.Disk.seen c.args.disk (g.S.Source.left script) (g.S.Source.left read) (g.S.Source.faults script)
    (g.S.Source.faults read) a.text a.steps a.told a.is c.in-Ok.ensures.taken c.in-Ok.ensures.ended c.in-Ok.ensures.later
    c.in-Err-open.disk c.in-Err-open.error (g.K.Sink.seen c.args.output.now) (g.R.Sink.seen c.args.report.now) c.in-Err-open.ensures)

pub returns : goal.returns
returns g c =
    let script = c.args.script.now in
    let read = c.read_steps.new.script in
    let a = c.in-Ok.ensures.steps in
    let w = c.run_whole.ensures a.steps a.fits in
    rw c.into_disk.ensures.disk (elim c.match-run_whole.branch [
      | in-Ok-run_whole o ↦ rw o.status-is (ran-well g.D.Disk.seen c.args.disk (g.S.Source.left script) (g.S.Source.left read)
          (g.S.Source.faults script) (g.S.Source.faults read) a.text a.steps a.told a.is c.in-Ok.ensures.taken c.in-Ok.ensures.ended
          c.in-Ok.ensures.later c.in-Ok-open.set c.run_whole.new.set c.in-Ok-open.ensures (g.K.Sink.seen c.args.output.now)
          (g.K.Sink.seen c.run_whole.new.output) (g.R.Sink.seen c.args.report.now) (g.R.Sink.seen c.run_whole.new.report)
          c.run_whole.result w o.in-Ok-run_whole.is)
      | in-Err-run_whole e ↦ rw (e.status-is, e.code-status.ensures) (ran-ill g.D.Disk.seen c.args.disk (g.S.Source.left script)
          (g.S.Source.left read) (g.S.Source.faults script) (g.S.Source.faults read) a.text a.steps a.told a.is
          c.in-Ok.ensures.taken c.in-Ok.ensures.ended c.in-Ok.ensures.later c.in-Ok-open.set c.run_whole.new.set
          c.in-Ok-open.ensures (g.K.Sink.seen c.args.output.now) (g.K.Sink.seen c.run_whole.new.output)
          (g.R.Sink.seen c.args.report.now) (g.R.Sink.seen c.run_whole.new.report) c.run_whole.result w
          e.in-Err-run_whole.error e.in-Err-run_whole.is)
    ])
