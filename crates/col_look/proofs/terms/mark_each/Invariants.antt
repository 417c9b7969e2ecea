-- Each place of the values so far is marked, and what was marked before.
use Rattle.std.proofs.Common.{◌≡◌, ℕ, ◌==◌, ◌||◌, false, get_or, take}
use Rattle.std.specs.List.{list_any}
use Rattle.col_look.proofs.terms.mark_each.Given as goal

abbrev pub invariant-loop-value : goal.invariant-loop-value
invariant-loop-value l =
    (i : ℕ) → get_or l.marks i false ≡ (get_or l.fn.marks i false || list_any (λ n. n == i) (take l.value-index l.values))
