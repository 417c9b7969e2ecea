use Rattle.std.proofs.Common.{take}
use Rattle.std.specs.List.{AllByRecursion}
use Rattle.col_merge_texts.specs.Taking.{AreTold}
use Rattle.col_merge_texts.proofs.merge_dict_column.ordinals_are_told.Given as goal

abbrev pub invariant-loop-column : goal.invariant-loop-column
invariant-loop-column l = AllByRecursion AreTold (take l.column-index l.bytes_columns)
