-- Each place has how often its number stands among the values so far.
use Rattle.std.proofs.Common.{◌≡◌, ℕ, ◌+◌, ◌-◌, ◌<◌, ◌≤◌, ◌==◌, get_or, take, length}
use Rattle.std.specs.List.{count_by}
use Rattle.col_facet.proofs.counting.count_all.Given as goal

abbrev pub invariant-loop-at : goal.invariant-loop-at
invariant-loop-at g l =
    (l.at ≤ l.count)
    × ((i : ℕ) → i < length l.counts → get_or l.counts i 0
    ≡ count_by (λ x. g.T.MonotonicallyMappableToU64.code x == l.base + i)
    (take l.at (g.V.ColumnValues.values l.list)))

abbrev pub decreases-loop-at : goal.decreases-loop-at
decreases-loop-at g l = l.count - l.at
