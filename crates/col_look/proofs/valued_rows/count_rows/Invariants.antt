-- What was counted, and what is left, are all.
use Rattle.std.proofs.Common.{◌≡◌, ◌+◌, length}
use Rattle.col_look.proofs.valued_rows.count_rows.Given as goal

abbrev pub invariant-loop-doc : goal.invariant-loop-doc
invariant-loop-doc g l =
    (g.I.Iterable.stands l.rows l.at) × (l.count + length (g.I.Iterable.left l.rows l.at) ≡ length (g.I.Iterable.items l.rows))

abbrev pub decreases-loop-doc : goal.decreases-loop-doc
decreases-loop-doc g l = length (g.I.Iterable.left l.rows l.at)
