use Rattle.std.proofs.Common.{◌≡◌, ◌==◌, map, get_or, refl, sym, ap, ◌∙◌, arith}
use Rattle.std.specs.List.{list_all}
use Rattle.std.proofs.lemmas.List.{take_all}
use Rattle.col_indexer.specs.Shuffles.{picked_of, shuffled_counts}
use Rattle.col_index.specs.Indexes.{shape_of}
use Rattle.col_indexer.proofs.ShuffleLemmas.{nowhere, segment-walked, pick-walked, walked-end, count-none, count-some}
use Rattle.col_indexer.proofs.TightestLemmas.{tightest-missing, tightest-ones, ones-more, one-value, few-at, few-picked}
use Rattle.col_indexer.proofs.merge.cardinality_of_sets.Goals as goal

pub has_value_at-requires : goal.has_value_at-requires
has_value_at-requires c =
    segment-walked c.args.indexes.now _ c.args.order.now c.loop-addr.addr-index c.iter_new_to_old_row_addrs-addr-items.ensures
    c.requires.fit.segments c.rows_are_there.ensures c.loop-addr-test.true

pub returns-then-not-has_value_at : goal.returns-then-not-has_value_at
returns-then-not-has_value_at c =
    let p = picked_of (map shape_of c.args.indexes.now) c.args.order.now in
    let pick = pick-walked c.args.indexes.now _ c.args.order.now c.loop-addr.addr-index
    c.iter_new_to_old_row_addrs-addr-items.ensures p refl c.loop-addr-test.true in
    let none = pick.1 ∙ count-none _ (sym c.if-not-has_value_at.true ∙ c.has_value_at.ensures) in
    tightest-missing (shuffled_counts p) c.loop-addr.addr-index pick.0 none
    (few-picked c.args.indexes.now c.requires.few p.order.addresses)

pub loop-addr-preserved : goal.loop-addr-preserved
loop-addr-preserved c =
    let p = picked_of (map shape_of c.args.indexes.now) c.args.order.now in
    let pick = pick-walked c.args.indexes.now _ c.args.order.now c.loop-addr.addr-index
    c.iter_new_to_old_row_addrs-addr-items.ensures p refl c.loop-addr-test.true in
    let addr = get_or c.iter_new_to_old_row_addrs-addr-items.result.now c.loop-addr.addr-index nowhere in
    let some = count-some _ (sym c.if-not-has_value_at.false ∙ c.has_value_at.ensures) in
    let one : get_or (shuffled_counts p) c.loop-addr.addr-index 0 ≡ 1 = one-value _ _ pick.1 some
    (few-at c.args.indexes.now c.requires.few addr.segment_ord addr.row_id) in
    ones-more (shuffled_counts p) c.loop-addr.addr-index pick.0 one c.loop-addr.invariant

pub returns : goal.returns
returns c =
    let p = picked_of (map shape_of c.args.indexes.now) c.args.order.now in
    let past = walked-end c.args.indexes.now _ c.args.order.now c.loop-addr.addr-index
    c.iter_new_to_old_row_addrs-addr-items.ensures p refl (omega arith) in
    tightest-ones (shuffled_counts p)
    (sym (ap (list_all (λ k. k == 1)) (take_all c.loop-addr.addr-index (shuffled_counts p) past)) ∙ c.loop-addr.invariant)
