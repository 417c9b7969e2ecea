use Rattle.std.proofs.Common.{ℕ, ◌<◌, ◌≤◌, ◌/◌, ◌^◌, get_or}
use Rattle.col_codecs.proofs.block_bounds.are_small.Given as goal

-- none so far has an upper half above the greatest
abbrev pub invariant-loop-value : goal.invariant-loop-value
invariant-loop-value l = (k : ℕ) → k < l.value-index → get_or l.vals k 0 / 2 ^ 32 ≤ l.greatest
