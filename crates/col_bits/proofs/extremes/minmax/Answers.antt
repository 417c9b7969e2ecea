use Rattle.std.proofs.Common.{◌∷◌}
use Rattle.col_bits.proofs.ExtremeLemmas.{extremes_more}
use Rattle.col_bits.proofs.extremes.minmax.Goals as goal

pub loop-val-preserved : goal.loop-val-preserved
loop-val-preserved g c =
    rw (c.min-least.ensures, c.max-greatest.ensures)
    (extremes_more g.met.T.Ord.total (c.in_ok-first.first ∷ c.loop-val.yielded) c.in-Some.val c.loop-val.least
    c.loop-val.greatest c.loop-val.invariant)
