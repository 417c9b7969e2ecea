use Rattle.std.proofs.Common.{◌<◌, ◌^◌, ◌∙◌, length, refl, sym, arith}
use Rattle.std.proofs.lemmas.Result.{err_from_is_err_and}
use Rattle.col_order.specs.Orders.{picks_of}
use Rattle.col_order.specs.RowOrders.{order_of}
use Rattle.col_merge_plan.specs.Slots.{keys_read, required_of}
use Rattle.col_merge.proofs.ReadingLemmas.{all_read-none}
use Rattle.col_merge.proofs.SlotReadLemmas.{all-stay}
use Rattle.col_merge.proofs.WriteLemmas.{order-refused, order-picks, types-refused, files-merged}
use Rattle.col_merge.proofs.merge.merge_columnar.Goals as goal

pub returns-then-not-is_order_of-clause-answer : goal.returns-then-not-is_order_of-clause-answer
returns-then-not-is_order_of-clause-answer g c =
    let a = g.K.Sink.seen c.args.output.now in
    order-refused c.args.columnar_readers.now (order_of c.args.merge_row_order)
    (required_of c.args.required_columns.now) a a c.files_are_read.ensures
    (sym c.is_order_of.ensures ∙ c.if-not-is_order_of.true)

pub returns-then-not-is_order_of-clause-kept : goal.returns-then-not-is_order_of-clause-kept
returns-then-not-is_order_of-clause-kept g c = all_read-none (λ k. length k.entries) c.args.columnar_readers.now

pub returns-in_err-types-clause-answer : goal.returns-in_err-types-clause-answer
returns-in_err-types-clause-answer g c =
    let p = err_from_is_err_and c.from_residual.result c.from_residual.ensures.1 in
    let rs = c.args.columnar_readers.now in
    let order = order_of c.args.merge_row_order in
    let a = g.K.Sink.seen c.args.output.now in
    let few : length (picks_of order) < 2 ^ 32 = omega (arith, c.num_rows-num_rows.ensures) in
    rw (p.1, p.2) (types-refused rs rs order (required_of c.args.required_columns.now) a a c.in_err-types.field-0.0
    c.files_are_read.ensures
    (order-picks rs order (sym c.is_order_of.ensures ∙ c.if-not-is_order_of.false) c.orders_are_picks.ensures)
    few c.in_err-types.ensures)

pub returns-in_err-types-clause-kept : goal.returns-in_err-types-clause-kept
returns-in_err-types-clause-kept g c = all_read-none (λ k. length k.entries) c.args.columnar_readers.now

pub returns-in_err-slots-clause-kept : goal.returns-in_err-slots-clause-kept
returns-in_err-slots-clause-kept g c = all_read-none (λ k. length k.entries) c.args.columnar_readers.now

pub returns-in_err-placed-clause-kept : goal.returns-in_err-placed-clause-kept
returns-in_err-placed-clause-kept g c = all_read-none (λ k. length k.entries) c.args.columnar_readers.now

pub returns-clause-answer : goal.returns-clause-answer
returns-clause-answer g c =
    let rs = c.args.columnar_readers.now in
    let order = order_of c.args.merge_row_order in
    let required = required_of c.args.required_columns.now in
    let few : length (picks_of order) < 2 ^ 32 = omega (arith, c.num_rows-num_rows.ensures) in
    files-merged rs c.write_slots.new.columnar_readers order required (g.K.Sink.seen c.args.output.now)
    (g.K.Sink.seen c.write_slots.new.output) c.write_slots.result c.deref.result.now (record {
      read = c.files_are_read.ensures;
      picked = order-picks rs order (sym c.is_order_of.ensures ∙ c.if-not-is_order_of.false) c.orders_are_picks.ensures;
      rows = refl;
      few = few;
      accepted = c.in_ok-types.ensures.accepted;
      names = c.in_ok-types.ensures.names;
      slots_are = c.deref.ensures.value ∙ c.in_ok-slots.ensures;
    }) (c.write_slots.ensures.answer required c.in_ok-types.ensures.types_are)

pub returns-clause-kept : goal.returns-clause-kept
returns-clause-kept g c =
    all-stay (keys_read c.args.columnar_readers.now) (required_of c.args.required_columns.now) c.deref.result.now
    c.args.columnar_readers.now c.write_slots.new.columnar_readers (c.deref.ensures.value ∙ c.in_ok-slots.ensures)
    c.write_slots.ensures.kept
