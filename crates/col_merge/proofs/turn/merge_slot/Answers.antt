use Rattle.std.proofs.Common.{◌≡◌, Some, length}
use Rattle.col_order.specs.Orders.{picks_of}
use Rattle.col_order.specs.RowOrders.{order_of}
use Rattle.col_merge.specs.Joined.{joined_by}
use Rattle.col_merge.proofs.WriteLemmas.{turn-some}
use Rattle.col_merge.proofs.turn.merge_slot.Goals as goal

pub returns-in-Some-clause-answer : goal.returns-in-Some-clause-answer
returns-in-Some-clause-answer g c required same =
    let order = order_of c.args.merge_row_order.now in
    let slot = c.args.slot.now in
    let is : c.in_ok-column_type.field-0 ≡ Some (c.in-Some.column_type, c.in-Some.bytes) =
    cc (c.in-Some.is, c.in-Some.column_type-is, c.in-Some.bytes-is) in
    turn-some c.args.columnar_readers.now c.join_columns.new.columnar_readers c.args.columns.now
    c.put_column.new.self (g.K.Sink.seen c.args.output.now) (g.K.Sink.seen c.put_column.new.sink)
    c.put_column.result (length (picks_of order)) slot.name c.name.result.now c.in-Some.column_type
    c.in-Some.bytes (λ parts. joined_by order required parts slot) c.in_ok-column_type.field-0 is
    (c.in_ok-column_type.ensures.answer required same) c.name.ensures c.put_column.ensures
