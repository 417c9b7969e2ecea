use Rattle.std.proofs.Common.{◌≡◌, ◌++◌, drop}
use Rattle.col_model.specs.U64List.{joined_lists}
use Rattle.col_merge_values.specs.Merges.{merged_rows}
use Rattle.col_merge_values.proofs.runs.append_rows.Given as goal

-- what was appended, and the rows that are left
abbrev pub invariant-loop-row : goal.invariant-loop-row
invariant-loop-row g l =
    let rows = merged_rows (g.S.Segments.columns l.segments) l.order.addresses in
    record { left : l.values.items ++ joined_lists (drop l.row rows) ≡ l.fn.values.items ++ joined_lists rows }
