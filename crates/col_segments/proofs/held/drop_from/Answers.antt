use Rattle.std.proofs.Common.{◌<◌, ◌≤◌, length, get_or, refl, ap, ◌∙◌, arith}
use Rattle.col_segments.specs.Segments.{HeldTable, alive_count}
use Rattle.col_segments.proofs.OpenLemmas.{drops-kept, drops-next, next-within}
use Rattle.col_segments.proofs.DropLemmas.{dropped_from, places-fit}
use Rattle.col_segments.proofs.PlaceLemmas.{places-ascend}
use Rattle.col_segments.proofs.held.drop_from.Goals as goal

pub drop_places-requires-clause-room : goal.drop_places-requires-clause-room
drop_places-requires-clause-room c =
    let at = c.loop-place in
    let d = c.index_mut-segment.result.now in
    let within : at.place < length at.held.items =
    omega (arith, c.loop-place-test.true, c.len-place-end.ensures, at.invariant.drops.long, at.held.ok, c.args.held.now.ok) in
    let fit = places-fit c.args.ids.now c.args.held.now.items at.held.items at.place at.first d at.invariant.drops within in
    omega (arith, ap (λ (h : HeldTable). length h.alive) c.index_mut-segment.ensures.value, fit, c.requires.open_.few)

pub drop_places-requires-clause-places : goal.drop_places-requires-clause-places
drop_places-requires-clause-places c = places-ascend 0 (alive_count c.args.held.now.items) c.args.ids.now c.requires.places

pub keep_open-next-requires : goal.keep_open-next-requires
keep_open-next-requires c some =
    let at = c.loop-place in
    let d = c.index_mut-segment.result.now in
    let within : at.place < length at.held.items =
    omega (arith, c.loop-place-test.true, c.len-place-end.ensures, at.invariant.drops.long, at.held.ok, c.args.held.now.ok) in
    let count = c.num_alive-count.ensures ∙ ap (λ (h : HeldTable). length h.alive) c.index_mut-segment.ensures.value in
    let here : 0 < length (get_or at.held.items at.place d).alive = omega (arith, some, count) in
    let next =
    next-within c.args.ids.now c.args.held.now.items at.held.items at.place at.first at.next at.readers.items d at.invariant within
    here in
    omega (arith, next, at.readers.ok)

pub overflow_add-first : goal.overflow_add-first
overflow_add-first c =
    let at = c.loop-place in
    let d = c.index_mut-segment.result.now in
    let within : at.place < length at.held.items =
    omega (arith, c.loop-place-test.true, c.len-place-end.ensures, at.invariant.drops.long, at.held.ok, c.args.held.now.ok) in
    let fit = places-fit c.args.ids.now c.args.held.now.items at.held.items at.place at.first d at.invariant.drops within in
    omega (
      arith,
      c.num_alive-count.ensures,
      ap (λ (h : HeldTable). length h.alive) c.index_mut-segment.ensures.value,
      fit,
      c.requires.open_.few,
    )

pub loop-place-preserved : goal.loop-place-preserved
loop-place-preserved c =
    let at = c.loop-place in
    let d = c.index_mut-segment.result.now in
    let within : at.place < length at.held.items =
    omega (arith, c.loop-place-test.true, c.len-place-end.ensures, at.invariant.drops.long, at.held.ok, c.args.held.now.ok) in
    let is = c.index_mut-segment.ensures.value in
    drops-next c.args.ids.now c.args.held.now.items at.held.items at.place at.first at.next at.readers.items d at.invariant within
    c.drop_places.new.self _ c.keep_open-next.result c.num_alive-count.result c.num_alive-left.result c.keep_open-next.new.readers.items
    (c.drop_places.ensures ∙ ap (dropped_from c.args.ids.now at.first) is)
    (c.num_alive-count.ensures ∙ ap (λ (h : HeldTable). length h.alive) is) c.num_alive-left.ensures refl
    c.keep_open-next.ensures.none c.keep_open-next.ensures.some c.keep_open-next.ensures.gone

pub returns-clause-open_ : goal.returns-clause-open_
returns-clause-open_ c =
    let at = c.loop-place in
    let whole : length at.held.items ≤ at.place =
    omega (arith, c.loop-place-test.false, c.len-place-end.ensures, at.invariant.drops.long, at.held.ok, c.args.held.now.ok) in
    drops-kept c.args.ids.now c.args.held.now.items at.held.items at.place at.first at.next c.args.readers.now.items at.readers.items
    c.requires.open_ at.invariant whole
