use Rattle.std.proofs.Common.{Contains, take}
use Rattle.col_values.specs.Values.{Encloses}
use Rattle.col_values.proofs.vec_column.bounds.Given as goal

-- both are values, and no value so far is outside
abbrev pub invariant-loop-value : goal.invariant-loop-value
invariant-loop-value g l =
    record {
      least : Contains l.values l.least;
      greatest : Contains l.values l.greatest;
      encloses : Encloses g.T.PartialOrd.partial_cmp l.least l.greatest (take l.value-index l.values);
    }
