use Rattle.std.proofs.Common.{◌≡◌, ◌≤◌, ◌++◌, slice_range}
use Rattle.col_merge_values.specs.Merges.{segment_values}
use Rattle.col_merge_values.proofs.runs.append_run.Given as goal

-- what was appended, and what is left of the run
abbrev pub invariant-loop-idx : goal.invariant-loop-idx
invariant-loop-idx g l =
    let xs = segment_values (g.S.Segments.columns l.segments) l.segment in
    record {
      within : l.idx ≤ l.end;
      left : l.values.items ++ slice_range xs l.idx l.end ≡ l.fn.values.items ++ slice_range xs l.start l.end;
    }
