use Rattle.std.proofs.Common.{◌≡◌, ◌++◌, ◌-◌, ◌≤◌}
use Rattle.col_index.specs.Offsets.{run, found_rows, positions_of}
use Rattle.col_index.proofs.appending.push_run.Given as goal

abbrev pub invariant-loop-position : goal.invariant-loop-position
invariant-loop-position l = record {
  within : l.position - l.start ≤ l.end - l.start;
  docs : l.docs_out.items ≡ l.initial.docs_out.items ++ found_rows (run l.doc l.start (l.position - l.start));
  rows : l.rows_out.items ≡ l.initial.rows_out.items ++ positions_of (run l.doc l.start (l.position - l.start));
}
