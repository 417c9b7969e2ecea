use Rattle.std.proofs.Common.{take}
use Rattle.std.specs.List.{AllByRecursion}
use Rattle.col_merge_slot.specs.Kept.{IsOwnIn}
use Rattle.col_merge_slot.proofs.told.cells_are_told.Given as goal

-- those that were passed are told
abbrev pub invariant-loop-column : goal.invariant-loop-column
invariant-loop-column l = AllByRecursion IsOwnIn (take l.column-index l.columns)
