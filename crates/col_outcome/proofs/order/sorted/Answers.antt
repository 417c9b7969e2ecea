use Rattle.std.proofs.Common.{refl}
use Rattle.std.proofs.lemmas.Result.{err_from_is_err_and}
use Rattle.col_lines.specs.RowOrders.{sort_key_of}
use Rattle.col_merge.specs.Readings.{slot_reads}
use Rattle.col_merge.proofs.ReadingLemmas.{all_read-none}
use Rattle.col_model.specs.Category.{slot_of}
use Rattle.col_outcome.proofs.TakenLemmas.{sort-memory, sort-refused, sort-taken}
use Rattle.col_outcome.proofs.order.sorted.Goals as goal

pub returns-then-readers : goal.returns-then-readers
returns-then-readers g c =
    let key = sort_key_of c.args.key.now in
    sort-memory key c.args.readers.now c.args.readers.now
    (all_read-none (slot_reads (slot_of key.name key.column_type)) c.args.readers.now) _ refl

pub returns-in_err-order : goal.returns-in_err-order
returns-in_err-order g c =
    let p = err_from_is_err_and c.from_residual.result c.from_residual.ensures.1 in
    rw (p.1, p.2) (sort-refused (sort_key_of c.args.key.now) c.args.readers.now c.sorted_order.new.columnar_readers
    (rw c.as_str.ensures.value at c.in_err-order.ensures.kept) _
    (rw c.as_str.ensures.value at c.in_err-order.ensures.answer))

pub returns : goal.returns
returns g c =
    sort-taken (sort_key_of c.args.key.now) c.args.readers.now c.sorted_order.new.columnar_readers
    (rw c.as_str.ensures.value at c.in_ok-order.ensures.kept) c.in_ok-order.order c.from.result
    (rw c.as_str.ensures.value at c.in_ok-order.ensures.answer) c.from.ensures
