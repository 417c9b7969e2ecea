use Rattle.std.proofs.Common.{◌≤◌, ◌+◌, get_or, arith}
use Rattle.std.proofs.lemmas.Option.{get_or_from_slice_get}
use Rattle.col_index.proofs.RankLaws.{rows_rise, from_rank}
use Rattle.col_index.proofs.row_runs.last_before.Goals as goal

pub overflow_sub-result : goal.overflow_sub-result
overflow_sub-result c =
    let starts = c.args.starts.now in
    let read = get_or_from_slice_get starts.rows c.args.count c.select.result 0 c.select.ensures in
    let next : c.args.row_id + 1 ≤ get_or starts.rows c.args.count 0 =
    from_rank starts.rows (c.args.row_id + 1) c.args.count (rows_rise starts c.rows_rise.ensures) (omega arith) (omega arith) in
    omega (arith, read, next)

pub returns-then-count-num_non_nulls-clause-row : goal.returns-then-count-num_non_nulls-clause-row
returns-then-count-num_non_nulls-clause-row c =
    let starts = c.args.starts.now in
    let read = get_or_from_slice_get starts.rows c.args.count c.select.result 0 c.select.ensures in
    let next : c.args.row_id + 1 ≤ get_or starts.rows c.args.count 0 =
    from_rank starts.rows (c.args.row_id + 1) c.args.count (rows_rise starts c.rows_rise.ensures) (omega arith) (omega arith) in
    omega (arith, read, next)

pub returns-then-count-num_non_nulls-clause-next : goal.returns-then-count-num_non_nulls-clause-next
returns-then-count-num_non_nulls-clause-next c = λ within.
    let starts = c.args.starts.now in
    let read = get_or_from_slice_get starts.rows c.args.count c.select.result 0 c.select.ensures in
    let next : c.args.row_id + 1 ≤ get_or starts.rows c.args.count 0 =
    from_rank starts.rows (c.args.row_id + 1) c.args.count (rows_rise starts c.rows_rise.ensures) (omega arith) (omega arith) in
    omega (arith, read, next)
