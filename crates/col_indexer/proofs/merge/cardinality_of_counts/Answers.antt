use Rattle.std.proofs.Common.{◌≡◌, map, get_or, refl, sym, ap, ◌∙◌, arith}
use Rattle.std.proofs.lemmas.List.{take_all}
use Rattle.col_indexer.specs.Counted.{tightest_of}
use Rattle.col_indexer.specs.Shuffles.{picked_of, shuffled_counts}
use Rattle.col_index.specs.Indexes.{shape_of}
use Rattle.col_index.specs.Versions.{cardinality_of}
use Rattle.col_indexer.proofs.ShuffleLemmas.{segment-walked, pick-walked, walked-end}
use Rattle.col_indexer.proofs.TightestLemmas.{tightest-many, tightest-none, tightest-one}
use Rattle.col_indexer.proofs.merge.cardinality_of_counts.Goals as goal
use Rattle.col_indexer.proofs.merge.cardinality_of_counts.Goals.{then-count-eq0, else-count-eq0}

pub values_at-count-requires : goal.values_at-count-requires
values_at-count-requires c =
    segment-walked c.args.indexes.now _ c.args.order.now c.loop-addr.addr-index c.iter_new_to_old_row_addrs-addr-items.ensures
    c.requires.segments c.rows_are_there.ensures c.loop-addr-test.true

pub returns-then-count-gt1 : goal.returns-then-count-gt1
returns-then-count-gt1 c =
    let p = picked_of (map shape_of c.args.indexes.now) c.args.order.now in
    let pick = pick-walked c.args.indexes.now _ c.args.order.now c.loop-addr.addr-index
    c.iter_new_to_old_row_addrs-addr-items.ensures p refl c.loop-addr-test.true in
    tightest-many (shuffled_counts p) c.loop-addr.addr-index pick.0 (omega (arith, pick.1, c.values_at-count.ensures))

pub loop-addr-preserved : goal.loop-addr-preserved
loop-addr-preserved c =
    let p = picked_of (map shape_of c.args.indexes.now) c.args.order.now in
    let pick = pick-walked c.args.indexes.now _ c.args.order.now c.loop-addr.addr-index
    c.iter_new_to_old_row_addrs-addr-items.ensures p refl c.loop-addr-test.true in
    let count = pick.1 ∙ sym c.values_at-count.ensures in
    let cs = shuffled_counts p in
    let i = c.loop-addr.addr-index in
    elim c.if-count-eq0.branch [
      | then-count-eq0 w ↦
          let more = tightest-none cs i pick.0 (omega (arith, count, w.if-count-eq0.true)) c.loop-addr.invariant.few in
          record { few = more.0; tight = ap cardinality_of w.tightest-is ∙ more.1 }
      | else-count-eq0 w ↦
          let one : get_or cs i 0 ≡ 1 = omega (arith, count, w.if-count-eq0.false, c.if-count-gt1.false) in
          let more = tightest-one cs i pick.0 one c.loop-addr.invariant.few in
          record { few = more.0; tight = ap cardinality_of w.tightest-is ∙ c.loop-addr.invariant.tight ∙ more.1 }
    ]

pub returns : goal.returns
returns c =
    let p = picked_of (map shape_of c.args.indexes.now) c.args.order.now in
    let past = walked-end c.args.indexes.now _ c.args.order.now c.loop-addr.addr-index
    c.iter_new_to_old_row_addrs-addr-items.ensures p refl (omega arith) in
    c.loop-addr.invariant.tight ∙ ap tightest_of (take_all c.loop-addr.addr-index (shuffled_counts p) past)
