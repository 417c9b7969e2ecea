use Rattle.std.proofs.Common.{◌≡◌, ◌≢◌, ◌+◌, ◌<◌, ◌∷◌, drop, length, get_or, sym, ap, ◌∙◌, arith}
use Rattle.std.specs.List.{sum}
use Rattle.col_indexer.specs.Counted.{ends_behind}
use Rattle.col_indexer.specs.Shuffles.{StandsAtSum, shuffled_counts}
use Rattle.col_indexer.proofs.ShuffleLemmas.{segment-walked, pick-walked, walked-end, length-shuffled, first-given, sums-none, sums-some, sums-end, sum-step}
use Rattle.col_indexer.proofs.shuffled.ShuffledStartOffsetsIterableRowId.next.Goals as goal

pub values_at-num_values-requires : goal.values_at-num_values-requires
values_at-num_values-requires c =
    segment-walked c.self.inside.column_indexes.now _ c.self.inside.order.now c.loop-at.at.place
    c.iter_new_to_old_row_addrs-addrs.ensures c.self.invariant.fit c.self.invariant.named c.loop-at-test.true

-- the count of this pick
there : (c : goal.After-row_known-1)
    → (c.loop-at.at.place < length (shuffled_counts c.args.self.now))
    × (get_or (shuffled_counts c.args.self.now) c.loop-at.at.place 0 ≡ c.from.result)
there c =
    let pick = pick-walked c.self.inside.column_indexes.now _ c.self.inside.order.now c.loop-at.at.place
    c.iter_new_to_old_row_addrs-addrs.ensures c.args.self.now c.self.view_is c.loop-at-test.true in
    (pick.0, pick.1 ∙ sym c.values_at-num_values.ensures ∙ sym c.from.ensures)

pub overflow_cast-result : goal.overflow_cast-result
overflow_cast-result c =
    let p = c.args.self.now in
    let few = ap (λ q. sum (shuffled_counts q)) c.self.view_is in
    let bound = c.self.invariant.few_values in
    let t = there c in
    let step = sum-step (shuffled_counts p) c.loop-at.at.place c.loop-at.at.sum c.from.result t.0 t.1 c.loop-at.invariant.stands.before in
    omega (arith, step.1)

pub returns-then-num_values-ne0-clause-stands : goal.returns-then-num_values-ne0-clause-stands
returns-then-num_values-ne0-clause-stands c =
    let p = c.args.self.now in
    let t = there c in
    let picks = length-shuffled p in
    record {
      pick = omega (arith, t.0);
      before = (sum-step (shuffled_counts p) c.loop-at.at.place c.loop-at.at.sum c.from.result t.0 t.1 c.loop-at.invariant.stands.before).0;
      first = c.loop-at.invariant.stands.first;
    }

pub returns-then-num_values-ne0-clause-value : goal.returns-then-num_values-ne0-clause-value
returns-then-num_values-ne0-clause-value c =
    let p = c.args.self.now in
    let k = c.loop-at.at.place in
    let inner = c.loop-at.at.inner in
    let sum = c.loop-at.at.sum in
    let after = sum + c.from.result in
    let rest = drop (k + 1) (shuffled_counts p) in
    let t = there c in
    let some : c.from.result ≢ 0 = λ e. c.if-num_values-ne0.true (sym c.from.ensures ∙ e) in
    sym c.loop-at.invariant.left
    ∙ first-given inner (ends_behind sum (drop k (shuffled_counts p))) c.loop-at.invariant.first
    ∙ sums-some (shuffled_counts p) k sum c.from.result t.0 t.1 some
    ∙ ap (λ more. after ∷ more) (sym (first-given inner (ends_behind after rest) c.loop-at.invariant.first))

pub loop-at-preserved : goal.loop-at-preserved
loop-at-preserved c =
    let p = c.args.self.now in
    let k = c.loop-at.at.place in
    let inner = c.loop-at.at.inner in
    let before = c.loop-at.at.sum in
    let picks = length-shuffled p in
    let pick = pick-walked c.self.inside.column_indexes.now _ c.self.inside.order.now k
    c.iter_new_to_old_row_addrs-addrs.ensures p c.self.view_is c.loop-at-test.true in
    let none : get_or (shuffled_counts p) k 0 ≡ 0 = pick.1 ∙ sym c.values_at-num_values.ensures ∙ c.if-num_values-ne0.false in
    let step = sum-step (shuffled_counts p) k before 0 pick.0 none c.loop-at.invariant.stands.before in
    let stands : StandsAtSum p (record { segment = c.loop-at.at.segment; place = k + 1; inner = inner; sum = before }) =
    record { pick = omega (arith, pick.0); before = omega (arith, step.0); first = c.loop-at.invariant.stands.first } in
    record {
      stands = stands;
      first = c.loop-at.invariant.first;
      left =
          first-given inner (ends_behind before (drop (k + 1) (shuffled_counts p))) c.loop-at.invariant.first
          ∙ sym (sums-none (shuffled_counts p) k before pick.0 none)
          ∙ sym (first-given inner (ends_behind before (drop k (shuffled_counts p))) c.loop-at.invariant.first)
          ∙ c.loop-at.invariant.left;
    }

pub returns-clause-value : goal.returns-clause-value
returns-clause-value c =
    let p = c.args.self.now in
    let k = c.loop-at.at.place in
    let inner = c.loop-at.at.inner in
    let past = walked-end c.self.inside.column_indexes.now _ c.self.inside.order.now k
    c.iter_new_to_old_row_addrs-addrs.ensures p c.self.view_is (omega arith) in
    let none =
    first-given inner (ends_behind c.loop-at.at.sum (drop k (shuffled_counts p))) c.loop-at.invariant.first
    ∙ sums-end (shuffled_counts p) k c.loop-at.at.sum past in
    (sym c.loop-at.invariant.left ∙ none, none)
