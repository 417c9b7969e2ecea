use Rattle.std.proofs.Common.{List, ℕ, length, ◌+◌, sym, ap, subst, ◌∙◌, arith}
use Rattle.col_common.specs.Ascending.{differences}
use Rattle.col_model.specs.Index.{RowSet, run_rows, runs_of}
use Rattle.col_index.specs.RunPlaces.{IsInRun}
use Rattle.col_index.proofs.RunHeldLemmas.{summed_runs_few, summed_runs}
use Rattle.col_index.proofs.row_runs.RowRuns.rank_counted.Goals as goal

pub overflow_sub-row_id : goal.overflow_sub-row_id
overflow_sub-row_id g c =
    let found = c.last_run-run.ensures.run c.args.row_id (c.rank_counted-count.ensures.rank ∙ c.row_behind.ensures) in
    found.start

pub returns-clause-rank : goal.returns-clause-rank
returns-clause-rank g c =
    let starts = c.self.inside.starts in
    let run = c.last_run-run.result in
    let found = c.last_run-run.ensures.run c.args.row_id (c.rank_counted-count.ensures.rank ∙ c.row_behind.ensures) in
    let own = subst (λ (before : List ℕ). IsInRun (run_rows starts.rows (differences before)) c.args.row_id run)
    c.deref.ensures.value found in
    let here = subst (λ (s : RowSet). IsInRun s.rows c.args.row_id run) c.self.view_is own in
    ap (λ n. run.before + n) (omega (arith, c.min.ensures)) ∙ sym here.part.count

pub returns-clause-steps : goal.returns-clause-steps
returns-clause-steps g c =
    let few = summed_runs_few c.self.inside.starts c.self.inside.before.items c.self.invariant.summed in
    omega (arith, few, c.rank_counted-count.ensures.steps, ap (λ (s : RowSet). length s.rows) c.self.view_is)

pub returns-clause-least : goal.returns-clause-least
returns-clause-least g c =
    let runs = summed_runs c.self.inside.starts c.self.inside.before.items c.self.invariant.summed in
    omega (arith, runs, c.rank_counted-count.ensures.least, ap (λ (s : RowSet). length (runs_of s.rows)) c.self.view_is)
