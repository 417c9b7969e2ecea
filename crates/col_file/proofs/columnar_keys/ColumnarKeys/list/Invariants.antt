use Rattle.std.proofs.Common.{◌≡◌, map, take, string_bytes}
use Rattle.col_file.specs.Handles.{listed}
use Rattle.col_file.proofs.columnar_keys.ColumnarKeys.list.Given as goal

abbrev pub invariant-loop-at : goal.invariant-loop-at
invariant-loop-at l = map (λ p. (string_bytes p.0, p.1)) l.found.items ≡ map listed (take l.at l.self.entries)
