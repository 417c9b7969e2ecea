use Rattle.std.proofs.Common.{◌≡◌, ◌+◌, ◌-◌, get_or, slice_get, Some, refl, sym, ap, arith}
use Rattle.std.proofs.lemmas.Option.{get_or_from_slice_get}
use Rattle.col_common.specs.Ascending.{differences}
use Rattle.col_model.specs.Index.{run_rows}
use Rattle.col_index.specs.Runs.{rows_of_runs}
use Rattle.col_index.proofs.SetLemmas.{row_below}
use Rattle.col_index.proofs.RunHeldLemmas.{summed_rows, summed_long, summed_all, row_selected}
use Rattle.col_index.proofs.selected_runs.select_in.Goals as goal

pub run_with-run-requires-clause-long : goal.run_with-run-requires-clause-long
run_with-run-requires-clause-long c =
    omega (arith, summed_long c.args.starts.now c.args.before.now c.requires.summed, c.num_non_nulls.ensures)

pub run_with-run-requires-clause-last : goal.run_with-run-requires-clause-last
run_with-run-requires-clause-last c =
    let before = c.args.before.now in
    let all = summed_all c.args.starts.now before c.requires.summed in
    omega (arith, all, c.requires.rank, ap (λ k. get_or before k 0) c.num_non_nulls.ensures)

pub overflow_add-result : goal.overflow_add-result
overflow_add-result c =
    let starts = c.args.starts.now in
    let before = c.args.before.now in
    let run = c.run_with-run.result in
    let row = c.select.result + (c.args.rank - get_or before run 0) in
    let read : slice_get (run_rows starts.rows (differences before)) c.args.rank ≡ Some row =
    row_selected starts before c.requires.summed run c.args.rank c.select.result (get_or before run 0) (get_or before (run + 1) 0)
    (omega (arith, c.run_with-run.ensures.within, c.num_non_nulls.ensures))
    (sym (get_or_from_slice_get starts.rows run c.select.result 0 c.select.ensures)) refl refl
    c.run_with-run.ensures.from c.run_with-run.ensures.upto in
    let below = row_below (rows_of_runs starts before) c.args.rank row (summed_rows starts before c.requires.summed) read in
    omega (arith, below, c.num_docs-count.ensures, c.num_docs-count.type_inv)

pub returns : goal.returns
returns c =
    let starts = c.args.starts.now in
    let before = c.args.before.now in
    let run = c.run_with-run.result in
    row_selected starts before c.requires.summed run c.args.rank c.select.result (get_or before run 0) (get_or before (run + 1) 0)
    (omega (arith, c.run_with-run.ensures.within, c.num_non_nulls.ensures))
    (sym (get_or_from_slice_get starts.rows run c.select.result 0 c.select.ensures)) refl refl
    c.run_with-run.ensures.from c.run_with-run.ensures.upto
