use Rattle.std.proofs.Common.{refl, ◌∙◌}
use Rattle.std.proofs.lemmas.List.{length-set}
use Rattle.col_index.proofs.SelectLemmas.{rank_below, selected_front, selected_rest}
use Rattle.col_index.proofs.select_near.select_all.Goals as goal

pub loop-at-init : goal.loop-at-init
loop-at-init g c = record { near = c.none_near-near.ensures; long = refl; front = refl; rest = refl }

pub select_near-requires-clause-rank : goal.select_near-requires-clause-rank
select_near-requires-clause-rank g c =
    rank_below (g.R.SelectNear.rows c.args.rows.now) c.args.ranks.now c.loop-at.ranks c.loop-at.at c.loop-at-test.true
    c.loop-at.invariant.rest c.requires

pub loop-at-preserved : goal.loop-at-preserved
loop-at-preserved g c =
    let rows = g.R.SelectNear.rows c.args.rows.now in
    let old = c.args.ranks.now in
    let xs = c.loop-at.ranks in
    let at = c.loop-at.at in
    let row = c.select_near.result in
    let before = c.loop-at.invariant in
    record {
      near = c.select_near.ensures.near;
      long = length-set xs at row ∙ before.long;
      front = selected_front rows old xs at c.loop-at-test.true before.rest row before.long before.front c.select_near.ensures.row;
      rest = selected_rest rows old xs at c.loop-at-test.true before.rest row;
    }
