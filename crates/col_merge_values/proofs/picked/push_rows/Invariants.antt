use Rattle.col_merge_values.specs.Merges.{merged_rows}
use Rattle.col_merge_values.proofs.PickedLemmas.{AreTold}
use Rattle.col_merge_values.proofs.picked.push_rows.Given as goal

-- what was told of the rows so far
abbrev pub invariant-loop-row : goal.invariant-loop-row
invariant-loop-row g l =
    AreTold (merged_rows (g.S.Segments.columns l.segments) l.order.addresses) l.row l.rows.items l.starts.items l.values.items
