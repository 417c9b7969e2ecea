use Rattle.std.proofs.Common.{◌∷◌, [], ℕ, List, Ok, subst}
use Rattle.std.proofs.lemmas.Result.{err_from_is_err_and}
use Rattle.col_program.specs.Report.{Prints, rows_line}
use Rattle.col_set.specs.Sets.{WritesBytes}
use Rattle.col_set_run.specs.Running.{RunsSteps}
use Rattle.col_set_tool.proofs.WholeLemmas.{rows-stop}
use Rattle.col_set_tool.proofs.WroteLemmas.{write-done, write-stop}
use Rattle.col_set_tool.proofs.whole.run_whole.Goals as goal

pub returns-in_err-push_rows : goal.returns-in_err-push_rows
returns-in_err-push_rows g c = λ xs fits.
    let p = err_from_is_err_and c.from_residual-in_err-push_rows.result c.from_residual-in_err-push_rows.ensures.1 in
    rw (p.1, p.2) (rows-stop g.D.Disk.seen c.args.set.now c.run_steps.new.set xs c.new-lines.result.items c.run_steps.new.out.items
    (c.in_ok-run_steps.ensures.runs xs fits) (g.K.Sink.seen c.args.output.now) (g.R.Sink.seen c.args.report.now))

pub returns-in_err-write : goal.returns-in_err-write
returns-in_err-write g c = λ xs fits.
    let see = g.D.Disk.seen in
    let old = c.args.set.now in
    let mid = c.run_steps.new.set in
    let found = c.run_steps.new.out.items in
    let all = c.push_rows.new.out.items in
    let s = subst (λ (ls : List ℕ). RunsSteps see old mid ls found xs (Ok tt)) c.new-lines.ensures.items
    (c.in_ok-run_steps.ensures.runs xs fits) in
    let rows = subst (λ n. Prints found all (rows_line n ∷ [])) c.num_rows.ensures.counted c.in_ok-push_rows.ensures in
    let p = err_from_is_err_and c.from_residual-in_err-write.result c.from_residual-in_err-write.ensures.1 in
    rw (p.1, p.2) (write-stop see old mid c.write.new.self xs found all s rows (g.K.Sink.seen c.args.output.now)
    (g.K.Sink.seen c.write.new.sink) (g.R.Sink.seen c.args.report.now) c.in_err-write.field-0.0 c.in_err-write.ensures)

pub returns : goal.returns
returns g c = λ xs fits.
    let see = g.D.Disk.seen in
    let old = c.args.set.now in
    let mid = c.run_steps.new.set in
    let found = c.run_steps.new.out.items in
    let all = c.push_rows.new.out.items in
    let s = subst (λ (ls : List ℕ). RunsSteps see old mid ls found xs (Ok tt)) c.new-lines.ensures.items
    (c.in_ok-run_steps.ensures.runs xs fits) in
    let rows = subst (λ n. Prints found all (rows_line n ∷ [])) c.num_rows.ensures.counted c.in_ok-push_rows.ensures in
    let report = g.R.Sink.seen c.args.report.now in
    let report' = g.R.Sink.seen c.write_bytes.new.sink in
    let bytes = subst (λ (bytes : List ℕ). WritesBytes report report' c.write_bytes.result bytes) c.deref.ensures.value
    c.write_bytes.ensures in
    write-done see old mid c.write.new.self xs found all s rows (g.K.Sink.seen c.args.output.now) (g.K.Sink.seen c.write.new.sink)
    report report' c.write_bytes.result c.in_ok-write.ensures bytes
