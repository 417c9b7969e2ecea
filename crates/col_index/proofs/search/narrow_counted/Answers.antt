use Rattle.std.proofs.Common.{◌-◌, arith}
use Rattle.col_index.proofs.HalvingLemmas.{halved-more, halved-least}
use Rattle.col_index.proofs.SearchLemmas.{middle, narrowed_done, narrowed_less, narrowed_not_less}
use Rattle.col_index.proofs.search.narrow_counted.Goals as goal

pub loop-low-preserved-then-look-target : goal.loop-low-preserved-then-look-target
loop-low-preserved-then-look-target g c =
    let low = c.loop-low.low in
    let high = c.loop-low.high in
    let so_far = c.loop-low.invariant in
    record {
      narrowed = narrowed_less c.args.rows.now c.args.target low high (middle low high) c.look.result
          c.requires.rising so_far.narrowed (omega arith) (omega arith) c.look.ensures.value
          c.if-look-target.true;
      counted = omega arith;
      halved = halved-more _ _ _ (high - low) _ (omega arith) (omega arith) (omega arith) (omega arith) so_far.halved;
    }

pub loop-low-preserved : goal.loop-low-preserved
loop-low-preserved g c =
    let low = c.loop-low.low in
    let high = c.loop-low.high in
    let so_far = c.loop-low.invariant in
    record {
      narrowed = narrowed_not_less c.args.rows.now c.args.target low high (middle low high) c.look.result
          c.requires.rising so_far.narrowed (omega arith) (omega arith) c.look.ensures.value
          c.if-look-target.false;
      counted = omega arith;
      halved = halved-more _ _ _ (high - low) _ (omega arith) (omega arith) (omega arith) (omega arith) so_far.halved;
    }

pub returns-clause-rank : goal.returns-clause-rank
returns-clause-rank g c =
    narrowed_done c.args.rows.now c.args.target c.loop-low.low c.loop-low.high c.loop-low-test.false
    c.loop-low.invariant.narrowed

pub returns-clause-least : goal.returns-clause-least
returns-clause-least g c =
    halved-least _ _ (c.loop-low.high - c.loop-low.low) (omega arith) c.loop-low.invariant.halved
