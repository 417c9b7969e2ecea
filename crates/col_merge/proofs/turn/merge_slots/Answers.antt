use Rattle.std.proofs.Common.{◌≡◌, ◌∙◌, [], length, take, ap, sym, subst, option_map, arith}
use Rattle.std.specs.BTreeMap.{get}
use Rattle.std.proofs.lemmas.Result.{err_from_is_err_and}
use Rattle.col_model.specs.Category.{slot_cmp}
use Rattle.col_order.specs.Orders.{picks_of}
use Rattle.col_order.specs.RowOrders.{order_of}
use Rattle.col_types.specs.Kinds.{kind_of}
use Rattle.col_merge.specs.Joined.{joined_by}
use Rattle.col_merge.specs.Short.{ArePlacedFor}
use Rattle.col_merge.specs.Turns.{MergedSoFar}
use Rattle.col_merge.specs.Readings.{slots_reads}
use Rattle.col_merge.proofs.ReadingLemmas.{all_read-none, counts-stay, read-stays, keys-stay}
use Rattle.col_merge.proofs.SlotReadLemmas.{read-more, read-stops, read-all}
use Rattle.col_merge.proofs.TurnLemmas.{goes-itself, goes-then, slots-none, all-taken, turn-more, turn-refused}
use Rattle.col_merge.proofs.turn.merge_slots.Goals as goal

pub loop-slot-init : goal.loop-slot-init
loop-slot-init g c =
    let rs = c.args.columnar_readers.now in
    let a = g.K.Sink.seen c.args.output.now in
    let order = order_of c.args.merge_row_order.now in
    let n = length (picks_of order) in (
      all_read-none (slots_reads []) rs,
      goes-itself a,
      λ required types. subst
          (λ cs. MergedSoFar rs a a cs n (joined_by order required) []) (sym c.requires.none)
          (slots-none rs a n (joined_by order required)),
    )

pub loop-slot-preserved : goal.loop-slot-preserved
loop-slot-preserved g c =
    let rs = c.args.columnar_readers.now in
    let mids = c.loop-slot.columnar_readers in
    let start = g.K.Sink.seen c.args.output.now in
    let a = g.K.Sink.seen c.loop-slot.output in
    let b = g.K.Sink.seen c.merge_slot.new.output in
    let n = length (picks_of (order_of c.args.merge_row_order.now)) in
    let was = c.loop-slot.invariant in
    let slot = c.slot-item.result in
    let wanted : option_map kind_of c.copied-wanted.result ≡ option_map kind_of (get slot_cmp c.args.types.now slot) =
    ap (option_map kind_of) (cc (c.get.ensures.value, c.copied-wanted.ensures)) in (
      read-more c.args.slots.now c.loop-slot.slot-index slot (omega (arith, c.loop-slot-test.true)) c.slot-item.is
          rs mids c.merge_slot.new.columnar_readers was.0 c.in_ok-merge_slot.ensures.kept,
      goes-then start a b was.1 c.in_ok-merge_slot.ensures.sink,
      λ required types. turn-more (slots_reads (take c.loop-slot.slot-index c.args.slots.now)) rs mids start a b
          c.loop-slot.columns c.merge_slot.new.columns n (joined_by (order_of c.args.merge_row_order.now) required)
          c.args.slots.now c.loop-slot.slot-index slot (omega (arith, c.loop-slot-test.true)) c.slot-item.is
          (was.2 required types) was.0 (c.in_ok-merge_slot.ensures.answer required (wanted ∙ types slot)),
    )

pub returns-in_err-merge_slot-clause-answer : goal.returns-in_err-merge_slot-clause-answer
returns-in_err-merge_slot-clause-answer g c required types =
    let p = err_from_is_err_and c.from_residual.result c.from_residual.ensures.1 in
    let order = order_of c.args.merge_row_order.now in
    let slot = c.slot-item.result in
    let wanted : option_map kind_of c.copied-wanted.result ≡ option_map kind_of (get slot_cmp c.args.types.now slot)
    = ap (option_map kind_of) (cc (c.get.ensures.value, c.copied-wanted.ensures)) in
    rw (p.1, p.2) (turn-refused (slots_reads (take c.loop-slot.slot-index c.args.slots.now)) c.args.columnar_readers.now
    c.loop-slot.columnar_readers (g.K.Sink.seen c.args.output.now) (g.K.Sink.seen c.loop-slot.output)
    (g.K.Sink.seen c.merge_slot.new.output) c.loop-slot.columns c.merge_slot.new.columns (length (picks_of order))
    (joined_by order required) c.args.slots.now c.loop-slot.slot-index slot (omega (arith, c.loop-slot-test.true)) c.slot-item.is
    (c.loop-slot.invariant.2 required types) c.loop-slot.invariant.0 c.merge_slot.new.columnar_readers c.in_err-merge_slot.field-0.0
    (c.in_err-merge_slot.ensures.answer required (wanted ∙ types slot)))

pub returns-in_err-merge_slot-clause-kept : goal.returns-in_err-merge_slot-clause-kept
returns-in_err-merge_slot-clause-kept g c =
    read-stops c.args.slots.now c.loop-slot.slot-index c.slot-item.result (omega (arith, c.loop-slot-test.true))
    c.slot-item.is c.args.columnar_readers.now c.loop-slot.columnar_readers c.merge_slot.new.columnar_readers
    c.loop-slot.invariant.0 c.in_err-merge_slot.ensures.kept

pub returns-in_err-merge_slot-clause-sink : goal.returns-in_err-merge_slot-clause-sink
returns-in_err-merge_slot-clause-sink g c =
    goes-then (g.K.Sink.seen c.args.output.now) (g.K.Sink.seen c.loop-slot.output)
    (g.K.Sink.seen c.merge_slot.new.output) c.loop-slot.invariant.1 c.in_err-merge_slot.ensures.sink

pub merge_slot-requires-clause-counts : goal.merge_slot-requires-clause-counts
merge_slot-requires-clause-counts g c =
    counts-stay (slots_reads (take c.loop-slot.slot-index c.args.slots.now)) c.args.columnar_readers.now
    c.loop-slot.columnar_readers c.loop-slot.invariant.0 ∙ c.requires.counts

pub merge_slot-requires-clause-read : goal.merge_slot-requires-clause-read
merge_slot-requires-clause-read g c =
    read-stays (slots_reads (take c.loop-slot.slot-index c.args.slots.now)) c.args.columnar_readers.now
    c.loop-slot.columnar_readers c.loop-slot.invariant.0 c.requires.read

pub merge_slot-requires-clause-placed : goal.merge_slot-requires-clause-placed
merge_slot-requires-clause-placed g c =
    let stay = keys-stay (slots_reads (take c.loop-slot.slot-index c.args.slots.now)) c.args.columnar_readers.now
    c.loop-slot.columnar_readers c.loop-slot.invariant.0 in
    subst (λ ks. ArePlacedFor (order_of c.args.merge_row_order.now) ks c.args.placed.now) (sym stay) c.requires.placed

pub returns-clause-answer : goal.returns-clause-answer
returns-clause-answer g c required types =
    let rs = c.args.columnar_readers.now in
    let order = order_of c.args.merge_row_order.now in
    subst (λ ss. MergedSoFar rs (g.K.Sink.seen c.args.output.now) (g.K.Sink.seen c.loop-slot.output)
    c.loop-slot.columns (length (picks_of order)) (joined_by order required) ss)
    (all-taken c.args.slots.now c.loop-slot.slot-index (omega (arith, c.loop-slot-test.false)))
    (c.loop-slot.invariant.2 required types)

pub returns-clause-kept : goal.returns-clause-kept
returns-clause-kept g c =
    read-all c.args.slots.now c.loop-slot.slot-index c.args.columnar_readers.now c.loop-slot.columnar_readers
    c.loop-slot.invariant.0
