use Rattle.std.proofs.Common.{length}
use Rattle.col_order.specs.Orders.{picks_of}
use Rattle.col_order.specs.RowOrders.{order_of}
use Rattle.col_merge.specs.Joined.{joined_by}
use Rattle.col_merge.proofs.TurnLemmas.{goes-then}
use Rattle.col_merge.proofs.WriteLemmas.{slots-ended}
use Rattle.col_merge.proofs.merge.write_slots.Goals as goal

pub returns-clause-answer : goal.returns-clause-answer
returns-clause-answer g c required types =
    let order = order_of c.args.merge_row_order.now in
    slots-ended c.args.columnar_readers.now c.merge_slots.new.columnar_readers (g.K.Sink.seen c.args.output.now)
    (g.K.Sink.seen c.merge_slots.new.output) (g.K.Sink.seen c.finalize.new.sink) c.merge_slots.new.columns
    c.finalize.result c.args.num_rows (length (picks_of order)) (joined_by order required) c.args.slots.now
    c.requires.rows (c.in_ok-merge_slots.ensures.answer required types) c.finalize.ensures.file
    c.finalize.ensures.columns

pub returns-clause-sink : goal.returns-clause-sink
returns-clause-sink g c =
    goes-then (g.K.Sink.seen c.args.output.now) (g.K.Sink.seen c.merge_slots.new.output)
    (g.K.Sink.seen c.finalize.new.sink) c.in_ok-merge_slots.ensures.sink
    (record { grown = c.finalize.ensures.ok.grown; later = c.finalize.ensures.ok.later })
