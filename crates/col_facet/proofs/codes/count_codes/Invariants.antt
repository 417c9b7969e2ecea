-- Each place has how often its code stands among those so far.
use Rattle.std.proofs.Common.{◌≡◌, ℕ, ◌+◌, ◌<◌, ◌≤◌, ◌-◌, ◌==◌, get_or, take, length}
use Rattle.std.specs.List.{count_by}
use Rattle.col_facet.specs.Tables.{AreCodesIn}
use Rattle.col_facet.proofs.codes.count_codes.Given as goal

abbrev pub invariant-loop-idx : goal.invariant-loop-idx
invariant-loop-idx l =
    (l.idx ≤ l.count) × AreCodesIn l.list.ranges (take l.idx l.list.codes)
    × ((i : ℕ) → i < length l.counts → get_or l.counts i 0 ≡ count_by (λ x. x == 1 + i) (take l.idx l.list.codes))

abbrev pub decreases-loop-idx : goal.decreases-loop-idx
decreases-loop-idx l = l.count - l.idx
