use Rattle.std.proofs.Common.{◌≡◌, ◌++◌, drop}
use Rattle.col_merge_values.specs.Merges.{segment_values}
use Rattle.col_merge_values.proofs.segments.Segments.append_segment.Given as goal

-- what was appended, and what is left of the segment
abbrev pub invariant-loop-idx : goal.invariant-loop-idx
invariant-loop-idx g l =
    let xs = segment_values (g.Self.Segments.columns l.self) l.segment in
    record { left : l.values.items ++ drop l.idx xs ≡ l.fn.values.items ++ xs }
