use Rattle.std.proofs.Common.{rules, ◌<◌, ◌≤◌, ◌+◌, ◌*◌, ◌++◌, Option, length, get_or, map, sym, ap, ◌∙◌, subst, arith, Fits, w64}
use Rattle.col_dynamic.specs.declared.dynamic_column.DynamicColumn.{DynamicColumn}
use Rattle.col_model.specs.Category.{slot_of}
use Rattle.col_places.specs.Places.{places_of}
use Rattle.col_questions.specs.Steps.{end_of}
use Rattle.col_segments.specs.Found.{HasColumn, MayFit, has_value}
use Rattle.col_segments.specs.Live.{row_in}
use Rattle.col_segments.specs.Segments.{HeldTable}
use Rattle.col_segments.proofs.FindsLemmas.{beside-at, beside-within, found-next, found-same, found-whole, upto-none, upto-some}
use Rattle.col_segments.proofs.KeptLemmas.{few-tables}
use Rattle.col_segments.proofs.finding.push_found.Goals as goal
use Rattle.col_segments.proofs.finding.push_found.Goals.{then-num_alive-gt0+in_ok-push_in, else-num_alive-gt0}

pub offset_bounds-columns-next : goal.offset_bounds-columns-next
offset_bounds-columns-next c =
    let at = c.loop-place in
    let hs = c.args.held.now in
    let d = c.index-held-place.result in
    let within : at.place < length hs = omega (arith, c.loop-place-test.true) in
    let is = ap (λ (h : HeldTable). length h.alive) c.index-held-place.is in
    let some : 0 < length (get_or hs at.place d).alive = omega (arith, is, c.num_alive.ensures, c.if-num_alive-gt0.true) in
    let there = beside-within hs at.place at.first at.next d at.invariant.0 within MayFit c.args.columns.now c.requires.fits some in
    let few : Fits w64 (length c.args.columns.now * 688) = search rules in
    omega (arith, few, there)

pub bounds-columns-next : goal.bounds-columns-next
bounds-columns-next c =
    let at = c.loop-place in
    let hs = c.args.held.now in
    let d = c.index-held-place.result in
    let within : at.place < length hs = omega (arith, c.loop-place-test.true) in
    let is = ap (λ (h : HeldTable). length h.alive) c.index-held-place.is in
    let some : 0 < length (get_or hs at.place d).alive = omega (arith, is, c.num_alive.ensures, c.if-num_alive-gt0.true) in
    beside-within hs at.place at.first at.next d at.invariant.0 within MayFit c.args.columns.now c.requires.fits some

pub push_in-requires-clause-fits : goal.push_in-requires-clause-fits
push_in-requires-clause-fits c =
    let at = c.loop-place in
    let hs = c.args.held.now in
    let d = c.index-held-place.result in
    let within : at.place < length hs = omega (arith, c.loop-place-test.true) in
    let is = c.index-held-place.is in
    let alive = ap (λ (h : HeldTable). length h.alive) is in
    let some : 0 < length (get_or hs at.place d).alive = omega (arith, alive, c.num_alive.ensures, c.if-num_alive-gt0.true) in
    let column = c.index-columns-next.result in
    let fits = beside-at hs at.place at.first at.next d at.invariant.0 within MayFit c.args.columns.now column c.requires.fits some in
    subst (λ (h : HeldTable). MayFit h.table column) (sym is)
    (subst (λ (o : Option DynamicColumn). MayFit (get_or hs at.place d).table o) (sym c.index-columns-next.is) fits)

pub overflow_add-next : goal.overflow_add-next
overflow_add-next c =
    let at = c.loop-place in
    omega (arith, at.invariant.0.next_is, few-tables c.args.held.now at.place, c.requires.few)

pub loop-place-preserved : goal.loop-place-preserved
loop-place-preserved c =
    let at = c.loop-place in
    let hs = c.args.held.now in
    let d = c.index-held-place.result in
    let lo = end_of c.args.lo.now in
    let hi = end_of c.args.hi.now in
    let old = c.args.places.now.items in
    let was = at.invariant.0 in
    let within : at.place < length hs = omega (arith, c.loop-place-test.true) in
    let is = c.index-held-place.is in
    let count = c.num_alive.ensures ∙ ap (λ (h : HeldTable). length h.alive) is in
    elim c.if-num_alive-gt0.branch [
      | then-num_alive-gt0+in_ok-push_in w ↦
          let some : 0 < length (get_or hs at.place d).alive = omega (arith, count, w.if-num_alive-gt0.true) in
          let upto = upto-some hs at.place at.first at.next d was within some in
          let more = w.num_alive-first.ensures ∙ ap (λ (h : HeldTable). length h.alive) is in (
            record {
              counted = w.first-is ∙ ap (λ n. at.first + n) more ∙ upto.counted;
              next_is = w.next-is ∙ upto.next_is;
            },
            λ name t has.
                let column = w.index-columns-next.result in
                let there = beside-at hs at.place at.first at.next d was within (HasColumn (slot_of name t)) c.args.columns.now column has
                some in
                let own =
                subst (λ (h : HeldTable). HasColumn (slot_of name t) h.table column) (sym is)
                (subst (λ (o : Option DynamicColumn). HasColumn (slot_of name t) (get_or hs at.place d).table o)
                (sym w.index-columns-next.is) there) in
                let here = w.in_ok-push_in.ensures name t own in
                rw w.places-is (found-next hs at.place at.first at.next d was within name t lo hi old at.places.items
                w.push_in.new.places.items
                (at.invariant.1 name t has)
                (here ∙ ap (λ (h : HeldTable). at.places.items ++ places_of at.first (has_value name t lo hi)
                (map (row_in h.table) h.alive)) is)),
          )
      | else-num_alive-gt0 w ↦
          let none : length (get_or hs at.place d).alive ≤ 0 = omega (arith, count, w.if-num_alive-gt0.false) in
          let upto = upto-none hs at.place at.first at.next d was within none in (
            record { counted = w.first-is ∙ upto.counted; next_is = w.next-is ∙ upto.next_is },
            λ name t has.
                rw w.places-is (found-same hs at.place at.first at.next d was within name t lo hi old at.places.items none
                (at.invariant.1 name t has)),
          )
    ]

pub returns : goal.returns
returns c = λ name t has.
    found-whole c.args.held.now c.loop-place.place name t (end_of c.args.lo.now) (end_of c.args.hi.now) c.args.places.now.items
    c.loop-place.places.items (omega (arith, c.loop-place-test.false)) (c.loop-place.invariant.1 name t has)
