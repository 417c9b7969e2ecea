-- Each place of the values so far is marked, and no other.
use Rattle.std.proofs.Common.{◌≡◌, ℕ, ◌-◌, ◌<◌, ◌≤◌, ◌==◌, false, get_or, take, length}
use Rattle.std.specs.List.{list_any}
use Rattle.col_numbers.specs.NumValues.{num_values_of}
use Rattle.col_look.proofs.terms.mark_all.Given as goal

abbrev pub invariant-loop-at : goal.invariant-loop-at
invariant-loop-at l =
    (l.at ≤ l.count) × (0 < length l.block.items)
    × ((i : ℕ) → get_or l.marks i false ≡ list_any (λ n. n == i) (take l.at (num_values_of l.list)))

abbrev pub decreases-loop-at : goal.decreases-loop-at
decreases-loop-at l = l.count - l.at
