use Rattle.std.proofs.Common.{◌≡◌, take, drop}
use Rattle.col_values.proofs.column_values.ColumnValues.get_range.Given as goal

-- what is written is what stands there
abbrev pub invariant-loop-at : goal.invariant-loop-at
invariant-loop-at g l = take l.at l.output ≡ take l.at (drop l.start (g.Self.ColumnValues.values l.self))
