use Rattle.std.proofs.Common.{rules, ◌≡◌, ◌-◌, ◌<◌, slice_get, length, Some, refl, sym, subst, ◌∙◌, arith}
use Rattle.col_model.specs.Index.{offset_counts}
use Rattle.col_index.proofs.KeptLemmas.{is_position, selected-none, selected-same, selected-next}
use Rattle.col_index.proofs.RowsAtLemmas.{after-more}
use Rattle.col_index.proofs.TurnLemmas.{rows_at-none, turned, turn-some, turn-inside, turn-same, turn-next}
use Rattle.col_index.proofs.multivalued_index_v2.MultiValueIndexV2.select_distant_rows.Goals as goal

pub loop-at-init : goal.loop-at-init
loop-at-init g c = record {
  place = search rules;
  target = c.first-place.ensures.target;
  near = c.none_near-near.ensures;
  selected = selected-none (offset_counts c.args.self.now) c.args.ranks.now (rows_at-none (offset_counts c.args.self.now));
}

pub loop-at-preserved-then-place-before : goal.loop-at-preserved-then-place-before
loop-at-preserved-then-place-before g c =
    let o = c.args.self.now in
    let here = is_position o _ _ (search rules) c.requires.rising c.loop-at-test.true c.requires.below in
    let t = turned o _ c.loop-at.ranks c.loop-at.kept c.loop-at.at c.from.result c.seek-place.result (search rules)
    c.seek-place.ensures.target c.from.ensures c.loop-at.invariant.selected in
    record {
      place = t.place;
      target = t.target ∙ after-more c.args.ranks.now c.loop-at.at _ refl;
      near = c.loop-at.invariant.near;
      selected = selected-same (offset_counts o) _ c.loop-at.ranks c.loop-at.kept c.loop-at.at c.loop-at.invariant.selected
          (turn-same o _ _ here c.seek-place.result t
          c.loop-at.place c.loop-at.invariant.place c.loop-at.invariant.target c.if-place-before.true);
    }

pub overflow_sub-place : goal.overflow_sub-place
overflow_sub-place g c =
    let o = c.args.self.now in
    let here = is_position o _ _ (search rules) c.requires.rising c.loop-at-test.true c.requires.below in
    let t = turned o _ c.loop-at.ranks c.loop-at.kept c.loop-at.at c.from.result c.seek-place.result (search rules)
    c.seek-place.ensures.target c.from.ensures c.loop-at.invariant.selected in
    turn-some o _ _ here c.seek-place.result t

pub select_near-requires-clause-rank : goal.select_near-requires-clause-rank
select_near-requires-clause-rank g c =
    let o = c.args.self.now in
    let here = is_position o _ _ (search rules) c.requires.rising c.loop-at-test.true c.requires.below in
    let t = turned o _ c.loop-at.ranks c.loop-at.kept c.loop-at.at c.from.result c.seek-place.result (search rules)
    c.seek-place.ensures.target c.from.ensures c.loop-at.invariant.selected in
    let inside : c.seek-place.result.at - 1 < length o.set.rows =
    turn-inside o _ _ here c.seek-place.result t in
    subst (λ xs. c.seek-place.result.at - 1 < length xs) (sym c.requires.rows) inside

pub loop-at-preserved : goal.loop-at-preserved
loop-at-preserved g c =
    let o = c.args.self.now in
    let here = is_position o _ _ (search rules) c.requires.rising c.loop-at-test.true c.requires.below in
    let t = turned o _ c.loop-at.ranks c.loop-at.kept c.loop-at.at c.from.result c.seek-place.result (search rules)
    c.seek-place.ensures.target c.from.ensures c.loop-at.invariant.selected in
    let found : slice_get o.set.rows (c.seek-place.result.at - 1) ≡ Some c.select_near.result =
    subst (λ xs. slice_get xs (c.seek-place.result.at - 1) ≡ Some c.select_near.result) c.requires.rows c.select_near.ensures.row in
    let next = turn-next o _ _ here c.seek-place.result t
    c.loop-at.place c.loop-at.invariant.place c.loop-at.invariant.target c.if-place-before.false c.select_near.result
    found in
    let long : c.loop-at.at < length c.loop-at.ranks = omega arith in
    record {
      place = t.place;
      target = t.target ∙ after-more c.args.ranks.now c.loop-at.at _ refl;
      near = c.select_near.ensures.near;
      selected =
          selected-next (offset_counts o) _ c.loop-at.ranks c.loop-at.kept c.loop-at.at c.loop-at.invariant.selected
          c.select_near.result long next;
    }
