use Rattle.std.proofs.Common.{◌≡◌, ◌++◌, ◌∷◌, [], length, map, refl, sym, ap, subst, arith}
use Rattle.std.specs.Vec.Iter.{into_iter_items, into_iter_len}
use Rattle.std.proofs.lemmas.List.{map_push}
use Rattle.std.proofs.lemmas.Result.{err_from_is_err_and}
use Rattle.col_opened.specs.Opened.{column_of, Listed}
use Rattle.col_opened.proofs.OpenLemmas.{OpensFrom, opens-none, next-entry, opens-more, opens-refused, read-next, all-read, none-left, opens-all}
use Rattle.col_opened.proofs.open.open_listed.Goals as goal

pub loop-name-init : goal.loop-name-init
loop-name-init g c =
    let r = c.args.reader.now in
    let all = c.args.listed.items in
    let left = into_iter_items c.into_iter-name-iterator.result in
    let gives = c.into_iter-name-iterator.ensures.into_iter_gives in
    let none = ap (map column_of) c.new-columns.ensures.items in
    let many = ap length gives.0 in
    let long = gives.1 in
    (subst (OpensFrom all r r left) (sym none) (opens-none r all left c.requires gives.0), omega arith)

pub loop-name-preserved : goal.loop-name-preserved
loop-name-preserved g c =
    let r = c.args.reader.now in
    let all = c.args.listed.items in
    let at = c.loop-name in
    let x : Listed = (c.in-Some.name, c.in-Some.handle) in
    let column = c.in_ok-column.column in
    let left = into_iter_items c.next.new.self in
    let made = map column_of at.columns.items in
    let steps : into_iter_items at.name-iterator ≡ x ∷ left = c.in-Some.ensures.steps.0 in
    let gone = c.in-Some.ensures.steps.1 in
    let was = at.invariant.1 in
    let short = ap length steps in
    let now = subst (λ ps. OpensFrom all r at.reader ps made) steps at.invariant.0 in
    let more : map column_of c.push.new.self.items ≡ made ++ column_of column ∷ [] =
    rw c.in_ok-push.ensures.items (map_push column_of at.columns.items column) in
    let entry = next-entry all r at.reader c.open_named.new.reader x left made now in (
      rw more (opens-more all r at.reader c.open_named.new.reader x left made now column c.in_ok-column.ensures.kept
          (c.in_ok-column.ensures.answer entry) c.in_ok-column.ensures.rows),
      omega arith,
    )

pub returns-in_err-column-clause-answer : goal.returns-in_err-column-clause-answer
returns-in_err-column-clause-answer g c =
    let r = c.args.reader.now in
    let all = c.args.listed.items in
    let at = c.loop-name in
    let x : Listed = (c.in-Some.name, c.in-Some.handle) in
    let left = into_iter_items c.next.new.self in
    let made = map column_of at.columns.items in
    let steps : into_iter_items at.name-iterator ≡ x ∷ left = c.in-Some.ensures.steps.0 in
    let now = subst (λ ps. OpensFrom all r at.reader ps made) steps at.invariant.0 in
    let entry = next-entry all r at.reader c.open_named.new.reader x left made now in
    let p = err_from_is_err_and c.from_residual.result c.from_residual.ensures.1 in
    rw (p.1, p.2) (opens-refused all r at.reader c.open_named.new.reader x left made now c.in_err-column.field-0.0
    (c.in_err-column.ensures.answer entry))

pub returns-clause-answer : goal.returns-clause-answer
returns-clause-answer g c =
    let r = c.args.reader.now in
    let all = c.args.listed.items in
    let at = c.loop-name in
    let left = into_iter_items at.name-iterator in
    let made = map column_of at.columns.items in
    let end_ = none-left left (into_iter_len at.name-iterator) c.in-None.ensures.steps.0 at.invariant.1 in
    opens-all all r at.reader at.columns.items made (subst (λ ps. OpensFrom all r at.reader ps made) end_ at.invariant.0) refl

pub returns-clause-rows : goal.returns-clause-rows
returns-clause-rows g c = c.loop-name.invariant.0.rows

pub returns-in_err-column-clause-reads : goal.returns-in_err-column-clause-reads
returns-in_err-column-clause-reads g c =
    read-next c.args.listed.items c.args.reader.now c.loop-name.reader c.open_named.new.reader
    (into_iter_items c.loop-name.name-iterator) (into_iter_items c.next.new.self)
    (c.in-Some.name, c.in-Some.handle) (map column_of c.loop-name.columns.items) c.loop-name.invariant.0
    c.in-Some.ensures.steps.0 c.in_err-column.ensures.kept

pub returns-in_err-push-clause-reads : goal.returns-in_err-push-clause-reads
returns-in_err-push-clause-reads g c =
    read-next c.args.listed.items c.args.reader.now c.loop-name.reader c.open_named.new.reader
    (into_iter_items c.loop-name.name-iterator) (into_iter_items c.next.new.self)
    (c.in-Some.name, c.in-Some.handle) (map column_of c.loop-name.columns.items) c.loop-name.invariant.0
    c.in-Some.ensures.steps.0 c.in_ok-column.ensures.kept

pub returns-clause-reads : goal.returns-clause-reads
returns-clause-reads g c =
    all-read c.args.listed.items c.args.reader.now c.loop-name.reader (into_iter_items c.loop-name.name-iterator)
    (map column_of c.loop-name.columns.items) c.loop-name.invariant.0
