use Rattle.std.proofs.Common.{◌+◌, ◌<◌, ◌++◌, drop, length, slice_range, arith}
use Rattle.col_model.specs.Order.{has_row}
use Rattle.col_model.specs.U64List.{joined_lists}
use Rattle.col_order.specs.Orders.{address_of}
use Rattle.col_merge_values.proofs.AppendLemmas.{part-appended}
use Rattle.col_merge_values.proofs.RunLemmas.{passes-at, segment-named, row-run}
use Rattle.col_merge_values.proofs.runs.append_rows.Goals as goal
use Rattle.col_merge_values.specs.Merges.{segment_values, merged_rows}

pub value_row_ids-row_ids-requires-clause-there : goal.value_row_ids-row_ids-requires-clause-there
value_row_ids-row_ids-requires-clause-there g c =
    let order = c.args.order.now in
    passes-at (has_row order.counts) order.addresses c.loop-row.row (address_of c.row_addr-addr.result)
    c.rows_are_there.ensures c.row_addr-addr.ensures

pub append_run-requires-clause-segment : goal.append_run-requires-clause-segment
append_run-requires-clause-segment g c =
    segment-named (g.S.Segments.columns c.args.segments.now) c.args.order.now.counts c.args.order.now.addresses
    c.loop-row.row (address_of c.row_addr-addr.result) c.requires c.rows_are_there.ensures c.row_addr-addr.ensures

pub loop-row-preserved : goal.loop-row-preserved
loop-row-preserved g c =
    let columns = g.S.Segments.columns c.args.segments.now in
    let order = c.args.order.now in
    let k = c.loop-row.row in
    let named = address_of c.row_addr-addr.result in
    let start = c.value_row_ids-row_ids.result.start in
    let after = c.value_row_ids-row_ids.result.«end» in
    let rows = merged_rows columns order.addresses in
    let within : k < length order.addresses = omega (arith, c.loop-row-test.true, c.num_rows-row-end.ensures) in
    let split = row-run columns order.addresses k named start after c.row_addr-addr.ensures within c.value_row_ids-row_ids.ensures in
    record {
      left =
          part-appended c.loop-row.values.items c.append_run.new.values.items
          (slice_range (segment_values columns named.0) start after) (joined_lists (drop (k + 1) rows))
          (joined_lists (drop k rows)) (c.args.values.now.items ++ joined_lists rows) c.in_ok-append_run.ensures
          split c.loop-row.invariant.left;
    }
