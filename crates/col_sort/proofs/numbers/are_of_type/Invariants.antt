use Rattle.std.proofs.Common.{take}
use Rattle.col_sort.specs.Columns.{AreOfType}
use Rattle.col_sort.proofs.numbers.are_of_type.Given as goal

abbrev pub invariant-loop-column : goal.invariant-loop-column
invariant-loop-column g l = AreOfType g.K.TypedKey.column_type (take l.column-index l.columns)
