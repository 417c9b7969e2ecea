use Rattle.std.proofs.Common.{◌+◌, ◌-◌, ◌<◌, get_or, length, refl, ◌∙◌, arith}
use Rattle.std.proofs.lemmas.List.{length-set}
use Rattle.col_index.proofs.RunPushLemmas.{next_row_of, ranked_front}
use Rattle.col_index.proofs.SelectLemmas.{selected_rest}
use Rattle.col_index.proofs.run_ranks.rank_rows.Goals as goal

pub overflow_sub-rows : goal.overflow_sub-rows
overflow_sub-rows c =
    let l = c.loop-at in
    let within : l.at < length c.args.rows.now = omega (arith, c.loop-at-test.true, l.invariant.long) in
    let row = next_row_of c.args.run c.args.rows.now l.rows c.args.from l.at l.invariant.order within l.invariant.rest c.requires.rows in
    row.from

pub overflow_add-rows : goal.overflow_add-rows
overflow_add-rows c =
    let l = c.loop-at in
    let within : l.at < length c.args.rows.now = omega (arith, c.loop-at-test.true, l.invariant.long) in
    let row = next_row_of c.args.run c.args.rows.now l.rows c.args.from l.at l.invariant.order within l.invariant.rest c.requires.rows in
    omega (arith, row.from, row.upto, c.requires.fits)

pub loop-at-preserved : goal.loop-at-preserved
loop-at-preserved c =
    let l = c.loop-at in
    let old = c.args.rows.now in
    let rank = c.args.run.before + (get_or l.rows l.at 0 - c.args.run.start) in
    let within : l.at < length old = omega (arith, c.loop-at-test.true, l.invariant.long) in
    record {
      order = omega (arith, l.invariant.order);
      long = length-set l.rows l.at rank ∙ l.invariant.long;
      front =
          ranked_front c.args.run old l.rows c.args.from l.at l.invariant.order within l.invariant.rest c.requires.rows rank
          l.invariant.long refl l.invariant.front;
      rest = selected_rest old old l.rows l.at within l.invariant.rest rank;
    }
