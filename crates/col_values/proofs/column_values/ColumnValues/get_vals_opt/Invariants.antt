use Rattle.std.proofs.Common.{◌≡◌, take, map, slice_get}
use Rattle.col_values.proofs.column_values.ColumnValues.get_vals_opt.Given as goal

-- what is written is what was asked for
abbrev pub invariant-loop-at : goal.invariant-loop-at
invariant-loop-at g l = take l.at l.output ≡ map (slice_get (g.Self.ColumnValues.values l.self)) (take l.at l.indexes)
