use Rattle.std.proofs.Common.{take}
use Rattle.std.specs.List.{AllByRecursion}
use Rattle.col_merge_slot.specs.Kept.{IsCountedIn}
use Rattle.col_merge_slot.proofs.told.columns_are_counted.Given as goal

-- those that were passed are told
abbrev pub invariant-loop-column : goal.invariant-loop-column
invariant-loop-column l = AllByRecursion IsCountedIn (take l.column-index l.columns)
