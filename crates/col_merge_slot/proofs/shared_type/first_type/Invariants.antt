use Rattle.std.proofs.Common.{◌≡◌, drop, filter_map}
use Rattle.col_merge_slot.specs.Segments.{where_set, kept_of}
use Rattle.col_merge_slot.proofs.shared_type.first_type.Given as goal

-- nothing is kept of the segments that were passed
abbrev pub invariant-loop-segment : goal.invariant-loop-segment
invariant-loop-segment l =
    kept_of l.columns l.kept
    ≡ filter_map (λ o. o) (drop l.segment (where_set l.columns l.kept))
