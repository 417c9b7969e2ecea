use Rattle.std.proofs.Common.{List, ℕ, ◌≡◌, ◌≤◌, ◌<◌, ◌+◌, ◌-◌, length, get_or, subst, inl, inr, arith}
use Rattle.std.proofs.lemmas.Bool.{cases_lt}
use Rattle.col_common.specs.Ascending.{differences}
use Rattle.col_model.specs.Index.{RowSet, run_rows}
use Rattle.col_model.specs.Positions.{rank}
use Rattle.col_index.specs.RunPlaces.{IsInRun}
use Rattle.col_index.proofs.RankLaws.{rows_rise, rank-le-length}
use Rattle.col_index.proofs.RunHeldLemmas.{summed_starts}
use Rattle.col_index.proofs.RunPlaceLemmas.{same_count}
use Rattle.col_index.proofs.row_runs.RowRuns.place_of.Goals as goal

pub overflow_sub-span : goal.overflow_sub-span
overflow_sub-span c =
    let found = c.last_run-run.ensures.run c.args.row_id (c.count_upto-count.ensures) in
    omega (arith, found.start, c.last_before.ensures.row)

pub returns-clause-place : goal.returns-clause-place
returns-clause-place c =
    let starts = c.self.inside.starts in
    let run = c.last_run-run.result in
    let count = c.count_upto-count.result in
    let last = c.last_before.result in
    let here : count ≡ rank starts.rows (c.args.row_id + 1) = c.count_upto-count.ensures in
    let found = c.last_run-run.ensures.run c.args.row_id here in
    let rises = rows_rise starts (summed_starts starts c.self.inside.before.items c.self.invariant.summed) in
    let few : count ≤ length starts.rows = omega (arith, here, rank-le-length starts.rows (c.args.row_id + 1)) in
    record {
      fits = c.last_run-run.ensures.fits;
      reach = omega (arith, found.start, c.last_before.ensures.row);
      whole = elim (cases_lt count (length starts.rows)) [
        | inl more ↦
            omega (arith, c.last_run-run.ensures.apart more, c.last_before.ensures.next more, found.start, c.last_before.ensures.row)
        | inr none ↦ omega (arith, c.last_run-run.ensures.end, c.last_before.ensures.last none, found.start)
      ];
      rows_near = λ row near.
          let behind : 0 < count → get_or starts.rows (count - 1) 0 ≤ row =
          λ some. omega (arith, c.last_run-run.ensures.start some, near.behind) in
          let before : count < length starts.rows → row < get_or starts.rows count 0 =
          λ within. omega (arith, c.last_before.ensures.next within, near.before, found.start, c.last_before.ensures.row) in
          let part = c.last_run-run.ensures.run row (same_count starts.rows count row rises few behind before) in
          let own = subst (λ (sums : List ℕ). IsInRun (run_rows starts.rows (differences sums)) row run) c.deref.ensures.value part in
          subst (λ (s : RowSet). IsInRun s.rows row run) c.self.view_is own;
    }

pub returns-clause-near : goal.returns-clause-near
returns-clause-near c =
    let found = c.last_run-run.ensures.run c.args.row_id (c.count_upto-count.ensures) in
    record { behind = found.start; before = omega (arith, found.start, c.last_before.ensures.row) }
