use Rattle.std.proofs.Common.{ℕ, ◌≤◌, drop}
use Rattle.col_numbers.specs.Readers.{list_of}
use Rattle.col_merge_column.specs.Limits.{StepsAtMost}
use Rattle.col_merge_column.proofs.cell_counts.greatest_step.Given as goal

-- where the steps that are left are small enough, all are
abbrev pub invariant-loop-at : goal.invariant-loop-at
invariant-loop-at l = (m : ℕ) → l.greatest ≤ m → StepsAtMost m l.before (drop l.at (list_of l.starts)) → StepsAtMost m 0 (list_of l.starts)
