use Rattle.std.proofs.Common.{◌≡◌, length, arith}
use Rattle.col_model.specs.Order.{has_row}
use Rattle.col_order.specs.Orders.{address_of}
use Rattle.col_merge_values.specs.Merges.{segment_values, merged_rows}
use Rattle.col_merge_values.proofs.PickedLemmas.{told-start, told-few, picked-empty, picked-some, picked-all, run-long, started}
use Rattle.col_merge_values.proofs.RunLemmas.{passes-at, segment-named}
use Rattle.col_merge_values.proofs.picked.push_rows.Goals as goal

pub loop-row-init : goal.loop-row-init
loop-row-init g c =
    told-start (merged_rows (g.S.Segments.columns c.args.segments.now) c.args.order.now.addresses)
    c.args.rows.now.items c.args.starts.now.items c.args.values.now.items c.requires.rows c.requires.starts
    c.requires.values

pub value_row_ids-row_ids-requires-clause-there : goal.value_row_ids-row_ids-requires-clause-there
value_row_ids-row_ids-requires-clause-there g c =
    let order = c.args.order.now in
    passes-at (has_row order.counts) order.addresses c.loop-row.row (address_of c.row_addr-addr.result)
    c.rows_are_there.ensures c.row_addr-addr.ensures

pub loop-row-preserved-then-row_ids : goal.loop-row-preserved-then-row_ids
loop-row-preserved-then-row_ids g c =
    let order = c.args.order.now in
    let r = c.value_row_ids-row_ids.result in
    picked-empty (g.S.Segments.columns c.args.segments.now) order.counts c.requires.columns order.addresses
    c.rows_are_there.ensures c.loop-row.row (address_of c.row_addr-addr.result) r.start r.«end»
    c.loop-row.rows.items c.loop-row.starts.items c.loop-row.values.items
    c.row_addr-addr.ensures (omega (arith, c.loop-row-test.true, c.num_rows-row-end.ensures))
    c.value_row_ids-row_ids.ensures c.if-row_ids.true c.loop-row.invariant

pub overflow_cast-len : goal.overflow_cast-len
overflow_cast-len g c =
    let order = c.args.order.now in
    let few = told-few (g.S.Segments.columns c.args.segments.now) order.counts c.requires.columns order.addresses
    c.rows_are_there.ensures c.loop-row.row c.loop-row.rows.items c.loop-row.starts.items
    c.loop-row.values.items c.loop-row.invariant in
    omega (arith, few, c.requires.few, c.len.ensures)

pub append_run-requires-clause-segment : goal.append_run-requires-clause-segment
append_run-requires-clause-segment g c =
    segment-named (g.S.Segments.columns c.args.segments.now) c.args.order.now.counts c.args.order.now.addresses
    c.loop-row.row (address_of c.row_addr-addr.result) c.requires.columns c.rows_are_there.ensures c.row_addr-addr.ensures

pub loop-row-preserved : goal.loop-row-preserved
loop-row-preserved g c =
    let order = c.args.order.now in
    let columns = g.S.Segments.columns c.args.segments.now in
    let named = address_of c.row_addr-addr.result in
    let r = c.value_row_ids-row_ids.result in
    let are = c.value_row_ids-row_ids.ensures in
    let some = run-long (segment_values columns named.0) r.start r.«end» are.order are.within c.if-row_ids.false in
    let long : c.len.result ≡ length c.loop-row.values.items = omega (arith, c.len.ensures) in
    picked-some columns order.counts c.requires.columns order.addresses c.rows_are_there.ensures c.loop-row.row
    named r.start r.«end» c.loop-row.rows.items c.loop-row.starts.items c.push.new.self.items
    c.push-in-loop-row.new.self.items c.loop-row.values.items c.append_run.new.values.items
    c.row_addr-addr.ensures (omega (arith, c.loop-row-test.true, c.num_rows-row-end.ensures)) are some
    c.in_ok-push.ensures.items (started c.loop-row.starts.items c.push-in-loop-row.new.self.items c.len.result
    (length c.loop-row.values.items) c.in_ok-push-2.ensures.items long) c.in_ok-append_run.ensures
    c.loop-row.invariant

pub overflow_cast-len-2 : goal.overflow_cast-len-2
overflow_cast-len-2 g c =
    let order = c.args.order.now in
    let few = told-few (g.S.Segments.columns c.args.segments.now) order.counts c.requires.columns order.addresses
    c.rows_are_there.ensures c.loop-row.row c.loop-row.rows.items c.loop-row.starts.items
    c.loop-row.values.items c.loop-row.invariant in
    omega (arith, few, c.requires.few, c.len-2.ensures)

pub returns : goal.returns
returns g c =
    let order = c.args.order.now in
    let long : c.len-2.result ≡ length c.loop-row.values.items = omega (arith, c.len-2.ensures) in
    picked-all (g.S.Segments.columns c.args.segments.now) order.counts c.requires.columns order.addresses
    c.rows_are_there.ensures c.loop-row.row c.loop-row.rows.items c.loop-row.starts.items
    c.push-2.new.self.items c.loop-row.values.items
    (omega (arith, c.loop-row-test.false, c.num_rows-row-end.ensures)) (started c.loop-row.starts.items
    c.push-2.new.self.items c.len-2.result (length c.loop-row.values.items) c.in_ok-push-3.ensures.items long)
    c.loop-row.invariant
