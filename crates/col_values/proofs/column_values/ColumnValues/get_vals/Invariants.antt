use Rattle.std.proofs.Common.{◌≡◌, take, map, slice_get, Some}
use Rattle.col_values.proofs.column_values.ColumnValues.get_vals.Given as goal

-- what is written is what was asked for
abbrev pub invariant-loop-at : goal.invariant-loop-at
invariant-loop-at g l = map Some (take l.at l.output) ≡ map (slice_get (g.Self.ColumnValues.values l.self)) (take l.at l.indexes)
