-- What was made, and the bars of the places that are left, are the bars of all places.
use Rattle.std.proofs.Common.{◌≡◌, ◌++◌, drop}
use Rattle.col_look.specs.BarsAt.{bars_from}
use Rattle.col_look.proofs.drawn.bars_of_counts.Given as goal

abbrev pub invariant-loop-place : goal.invariant-loop-place
invariant-loop-place g l =
    l.bars.items ++ bars_from (g.T.LookNumber.number l.least) l.distance l.width l.place (drop l.place l.counts)
    ≡ bars_from (g.T.LookNumber.number l.least) l.distance l.width 0 l.counts
