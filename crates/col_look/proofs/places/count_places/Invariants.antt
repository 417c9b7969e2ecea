-- Each place has how many of the values so far stand there.
use Rattle.std.proofs.Common.{◌≡◌, ℕ, ◌-◌, ◌<◌, ◌≤◌, ◌==◌, get_or, take, length}
use Rattle.std.specs.List.{count_by}
use Rattle.col_look.specs.Places.{place_of}
use Rattle.col_look.proofs.places.count_places.Given as goal

abbrev pub invariant-loop-at : goal.invariant-loop-at
invariant-loop-at g l =
    (l.at ≤ l.count) × (0 < length l.block.items)
    × ((i : ℕ) → i < length l.counts → get_or l.counts i 0
    ≡ count_by (λ x. place_of l.base l.width (g.T.MonotonicallyMappableToU64.code x) == i)
    (take l.at (g.V.ColumnValues.values l.list)))

abbrev pub decreases-loop-at : goal.decreases-loop-at
decreases-loop-at g l = l.count - l.at
