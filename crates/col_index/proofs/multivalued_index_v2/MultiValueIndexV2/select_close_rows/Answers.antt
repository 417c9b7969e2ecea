use Rattle.std.proofs.Common.{rules, ◌≡◌, ◌+◌, ◌-◌, ◌<◌, get_or, slice_get, length, Some, refl, sym, ap, subst, ◌∙◌, arith}
use Rattle.col_model.specs.Index.{RowOffsets, offset_counts}
use Rattle.col_model.specs.Positions.{rank}
use Rattle.col_index.proofs.KeptLemmas.{is_position, selected-none, selected-read}
use Rattle.col_index.proofs.SearchLemmas.{rank_of_zero}
use Rattle.col_index.proofs.TurnLemmas.{rows_at-none}
use Rattle.col_index.proofs.RowsAtLemmas.{after-more}
use Rattle.col_index.proofs.WrittenLemmas.{window_started, started-fits, started-listed, row-written}
use Rattle.col_index.proofs.multivalued_index_v2.MultiValueIndexV2.select_close_rows.Goals as goal

pub loop-at-init : goal.loop-at-init
loop-at-init g c = record {
  window = record { short = omega arith; counts = λ i h. absurd (omega (arith, h)) };
  room = refl;
  before = rank_of_zero c.args.self.now.starts;
  near = c.none_near-near.ensures;
  selected = selected-none (offset_counts c.args.self.now) c.args.ranks.now (rows_at-none (offset_counts c.args.self.now));
}

pub window_at-window-requires-clause-inside : goal.window_at-window-requires-clause-inside
window_at-window-requires-clause-inside g c =
    let o = c.args.self.now in
    let here = is_position o _ _ (search rules) c.requires.rising c.loop-at-test.true c.requires.below in
    let read = selected-read (offset_counts o) _ c.loop-at.ranks c.loop-at.kept c.loop-at.at c.loop-at.invariant.selected in
    let listed = subst (λ p. rank o.starts (p + 1) < length o.starts) (sym read) (started-listed o _ _ here) in
    subst (λ xs. rank xs (get_or c.loop-at.ranks c.loop-at.at 0 + 1) < length xs)
    (sym (ap (λ (o : RowOffsets). o.starts) c.self.view_is)) listed

pub select_near-requires-clause-rank : goal.select_near-requires-clause-rank
select_near-requires-clause-rank g c =
    let o = c.args.self.now in
    let here = is_position o _ _ (search rules) c.requires.rising c.loop-at-test.true c.requires.below in
    let read = selected-read (offset_counts o) _ c.loop-at.ranks c.loop-at.kept c.loop-at.at c.loop-at.invariant.selected in
    let started = window_started o.starts _ _ c.window_at-window.new.table _ _ (ap (λ (o : RowOffsets). o.starts) c.self.view_is)
    c.window_at-window.ensures.window c.window_at-window.ensures.from c.window_at-window.ensures.upto read in
    let fits = started-fits o _ _ here _ started in
    let inside : get_or c.window_at-window.new.table (get_or c.loop-at.ranks c.loop-at.at 0 - c.window_at-window.result.position) 0 - 1
    < length o.set.rows = search rules in
    subst (λ xs. get_or c.window_at-window.new.table
    (get_or c.loop-at.ranks c.loop-at.at 0 - c.window_at-window.result.position) 0 - 1 < length xs)
    (sym c.requires.rows) inside

pub loop-at-preserved : goal.loop-at-preserved
loop-at-preserved g c =
    let o = c.args.self.now in
    let here = is_position o _ _ (search rules) c.requires.rising c.loop-at-test.true c.requires.below in
    let read = selected-read (offset_counts o) _ c.loop-at.ranks c.loop-at.kept c.loop-at.at c.loop-at.invariant.selected in
    let started = window_started o.starts _ _ c.window_at-window.new.table _ _ (ap (λ (o : RowOffsets). o.starts) c.self.view_is)
    c.window_at-window.ensures.window c.window_at-window.ensures.from c.window_at-window.ensures.upto read in
    let ps = c.args.ranks.now in
    let at = c.loop-at.at in
    let number = get_or c.window_at-window.new.table (get_or c.loop-at.ranks at 0 - c.window_at-window.result.position) 0 in
    let found : slice_get o.set.rows (number - 1) ≡ Some c.select_near.result =
    subst (λ xs. slice_get xs (number - 1) ≡ Some c.select_near.result) c.requires.rows c.select_near.ensures.row in
    record {
      window = search rules;
      room = search rules;
      before = started ∙ ap (rank o.starts) (after-more ps at (get_or ps at 0) refl);
      near = c.select_near.ensures.near;
      selected =
          row-written o ps at here c.loop-at.ranks c.loop-at.kept c.loop-at.before number c.select_near.result
          c.loop-at.invariant.selected c.loop-at.invariant.before started found c.is_other.result c.is_other.ensures;
    }
