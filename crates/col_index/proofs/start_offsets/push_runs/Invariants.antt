use Rattle.std.proofs.Common.{◌≡◌, ◌++◌}
use Rattle.col_common.specs.Ascending.{differences}
use Rattle.col_model.specs.Positions.{rows_with_value, starts_of}
use Rattle.col_index.proofs.RunLemmas.{rows_left, starts_left}
use Rattle.col_index.proofs.start_offsets.push_runs.Given as goal

abbrev pub invariant-loop-row : goal.invariant-loop-row
invariant-loop-row l = record {
  rows : l.rows.items ++ rows_left l.start_offsets l.row ≡ l.initial.rows.items ++ rows_with_value (differences l.start_offsets);
  starts : l.starts.items ++ starts_left l.start_offsets l.row ≡ l.initial.starts.items ++ starts_of (differences l.start_offsets);
}
