use Rattle.std.proofs.Common.{◌≡◌, map, slice_range}
use Rattle.col_file.specs.Handles.{handle_of}
use Rattle.col_file.proofs.columnar_keys.ColumnarKeys.handles.Given as goal

abbrev pub invariant-loop-at : goal.invariant-loop-at
invariant-loop-at l = l.found.items ≡ map handle_of (slice_range l.self.entries l.start l.at)
