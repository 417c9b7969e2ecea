use Rattle.std.proofs.Common.{ℕ, ◌≤◌, drop}
use Rattle.col_merge_column.specs.Limits.{HaveAtMost}
use Rattle.col_merge_column.proofs.cell_counts.most_in_rows.Given as goal

-- where the indexes that are left have few enough, all have
abbrev pub invariant-loop-column_index : goal.invariant-loop-column_index
invariant-loop-column_index l =
    (m : ℕ) → l.most ≤ m → HaveAtMost m (drop l.column_index-index l.column_indexes) → HaveAtMost m l.column_indexes
