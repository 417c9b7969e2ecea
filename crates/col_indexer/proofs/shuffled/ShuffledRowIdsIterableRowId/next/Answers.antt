use Rattle.std.proofs.Common.{◌≢◌, get_or, sym, ◌∙◌, arith}
use Rattle.col_indexer.specs.Shuffles.{shuffled_counts}
use Rattle.col_indexer.proofs.ShuffleLemmas.{segment-walked, pick-walked, walked-end, length-shuffled, count-none, count-some, picks-none, picks-some, picks-end}
use Rattle.col_indexer.proofs.shuffled.ShuffledRowIdsIterableRowId.next.Goals as goal

pub has_value_at-requires : goal.has_value_at-requires
has_value_at-requires c =
    segment-walked c.self.inside.column_indexes.now _ c.self.inside.order.now c.loop-at.at.place
    c.iter_new_to_old_row_addrs-addrs.ensures c.self.invariant.fit c.self.invariant.named c.loop-at-test.true

pub returns-then-has_value_at-clause-value : goal.returns-then-has_value_at-clause-value
returns-then-has_value_at-clause-value c =
    let k = c.loop-at.at.place in
    let pick = pick-walked c.self.inside.column_indexes.now _ c.self.inside.order.now k
    c.iter_new_to_old_row_addrs-addrs.ensures c.args.self.now c.self.view_is c.loop-at-test.true in
    let some : get_or (shuffled_counts c.args.self.now) k 0 ≢ 0 =
    λ e. count-some _ (sym c.if-has_value_at.true ∙ c.has_value_at.ensures) (sym pick.1 ∙ e) in
    sym c.loop-at.invariant.left ∙ picks-some (shuffled_counts c.args.self.now) k pick.0 some

pub loop-at-preserved : goal.loop-at-preserved
loop-at-preserved c =
    let k = c.loop-at.at.place in
    let pick = pick-walked c.self.inside.column_indexes.now _ c.self.inside.order.now k
    c.iter_new_to_old_row_addrs-addrs.ensures c.args.self.now c.self.view_is c.loop-at-test.true in
    let none = pick.1 ∙ count-none _ (sym c.if-has_value_at.false ∙ c.has_value_at.ensures) in
    record {
      stands = omega (arith, length-shuffled c.args.self.now, pick.0);
      left = sym (picks-none (shuffled_counts c.args.self.now) k pick.0 none) ∙ c.loop-at.invariant.left;
    }

pub returns-clause-value : goal.returns-clause-value
returns-clause-value c =
    let past = walked-end c.self.inside.column_indexes.now _ c.self.inside.order.now c.loop-at.at.place
    c.iter_new_to_old_row_addrs-addrs.ensures c.args.self.now c.self.view_is (omega arith) in
    let none = picks-end (shuffled_counts c.args.self.now) c.loop-at.at.place past in
    (sym c.loop-at.invariant.left ∙ none, none)
