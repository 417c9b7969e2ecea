use Rattle.std.proofs.Common.{Contains, sym}
use Rattle.col_values.proofs.OrderLemmas.{encloses_more, contains_either}
use Rattle.col_values.proofs.vec_column.bounds.Goals as goal

pub loop-value-preserved : goal.loop-value-preserved
loop-value-preserved g c =
    let item : Contains c.args.values.now c.value-item.result = (c.loop-value.value-index, c.loop-value-test.true, sym c.value-item.is) in
    rw (c.min-least.ensures, c.max-greatest.ensures)
    record {
      least = contains_either _ _ _ _ item c.loop-value.invariant.least;
      greatest = contains_either _ _ _ _ c.loop-value.invariant.greatest item;
      encloses =
          encloses_more g.met.T.Ord.total g.met.T.Ord.matches_partial_cmp _ _ _ _ _ c.loop-value-test.true
          c.value-item.is c.loop-value.invariant.encloses;
    }
