use Rattle.std.proofs.Common.{◌≡◌, length}
use Rattle.col_segments.specs.RowIds.{row_ids}
use Rattle.col_segments.proofs.IdLemmas.{with_ids}
use Rattle.col_segments.proofs.rows.read_ids.Given as goal

abbrev pub invariant-loop-left : goal.invariant-loop-left
invariant-loop-left l = row_ids l.bytes ≡ with_ids l.ids.items (row_ids l.left)

abbrev pub decreases-loop-left : goal.decreases-loop-left
decreases-loop-left l = length l.left
