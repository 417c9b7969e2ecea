use Rattle.std.proofs.Common.{◌≡◌, ◌++◌, drop}
use Rattle.col_model.specs.U64List.{joined_lists}
use Rattle.col_merge_values.proofs.runs.append_segments.Given as goal

-- what was appended, and the segments that are left
abbrev pub invariant-loop-segment : goal.invariant-loop-segment
invariant-loop-segment g l =
    let lists = (g.S.Segments.columns l.segments).lists in
    record { left : l.values.items ++ joined_lists (drop l.segment lists) ≡ l.fn.values.items ++ joined_lists lists }
