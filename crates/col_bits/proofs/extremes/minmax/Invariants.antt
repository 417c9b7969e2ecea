use Rattle.std.proofs.Common.{◌∷◌}
use Rattle.col_bits.specs.Extremes.{AreExtremes}
use Rattle.col_bits.proofs.extremes.minmax.Given as goal

-- the least and the greatest so far
abbrev pub invariant-loop-val : goal.invariant-loop-val
invariant-loop-val g l = AreExtremes g.T.Ord.cmp (l.initial.least ∷ l.yielded) l.least l.greatest
