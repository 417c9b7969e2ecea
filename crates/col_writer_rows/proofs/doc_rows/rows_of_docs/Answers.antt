use Rattle.std.proofs.Common.{arith, ap, ◌≡◌, ◌≤◌, ◌<◌, ◌+◌, get_or, length}
use Rattle.std.proofs.lemmas.Option.{get_or_from_slice_get}
use Rattle.col_writer_rows.proofs.DocRowLemmas.{walked-none, walked-new, walked-again}
use Rattle.col_writer_rows.proofs.StartLemmas.{list_at}
use Rattle.col_writer_rows.proofs.doc_rows.rows_of_docs.Goals as goal

pub loop-place-init : goal.loop-place-init
loop-place-init c =
    walked-none c.args.num_rows c.args.docs.now c.in_ok-rows.rows.items c.in_ok-starts.starts.items
    c.in_ok-rows.ensures.items c.in_ok-starts.ensures.items

pub loop-place-preserved-then-from-next : goal.loop-place-preserved-then-from-next
loop-place-preserved-then-from-next c =
    let docs = c.args.docs.now in
    let i = c.loop-place.place in
    let d = c.get-doc.result in
    let within : i < length docs = omega (arith, c.loop-place-test.true, c.len-num_vals.ensures) in
    let read : get_or docs i 0 ≡ d = get_or_from_slice_get docs i d 0 c.get-doc.ensures in
    let low : d < c.args.num_rows = omega (arith, read, list_at c.args.num_rows docs i c.requires.below within) in
    let old : d < c.loop-place.next = omega (arith, c.if-from-next.true, c.from-in-loop-place.ensures) in
    walked-again c.args.num_rows docs c.never_fall.ensures c.requires.below c.loop-place.rows.items
    c.loop-place.starts.items i d c.loop-place.next within read low old c.loop-place.invariant

pub loop-place-preserved : goal.loop-place-preserved
loop-place-preserved c =
    let docs = c.args.docs.now in
    let i = c.loop-place.place in
    let d = c.get-doc.result in
    let within : i < length docs = omega (arith, c.loop-place-test.true, c.len-num_vals.ensures) in
    let read : get_or docs i 0 ≡ d = get_or_from_slice_get docs i d 0 c.get-doc.ensures in
    let low : d < c.args.num_rows = omega (arith, read, list_at c.args.num_rows docs i c.requires.below within) in
    let new : c.loop-place.next ≤ d = omega (arith, c.if-from-next.false, c.from-in-loop-place.ensures) in
    walked-new c.args.num_rows docs c.never_fall.ensures c.requires.below c.loop-place.rows.items
    c.loop-place.starts.items c.push.new.self.items c.push-in-loop-place.new.self.items i d c.loop-place.next
    (c.from-next.result + 1) within read low new c.in_ok-push.ensures.items c.in_ok-push-2.ensures.items
    (ap (λ k. k + 1) c.from-next.ensures) c.loop-place.invariant
