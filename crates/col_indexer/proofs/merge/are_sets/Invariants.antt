use Rattle.std.proofs.Common.{take}
use Rattle.std.specs.List.{AllByRecursion}
use Rattle.col_index.specs.Indexes.{shape_of}
use Rattle.col_indexer.specs.Counted.{HasFew}
use Rattle.col_indexer.proofs.merge.are_sets.Given as goal

-- no row of those that were passed has more than one value
abbrev pub invariant-loop-index : goal.invariant-loop-index
invariant-loop-index l = AllByRecursion (λ index. HasFew (shape_of index)) (take l.index-index l.column_indexes)
