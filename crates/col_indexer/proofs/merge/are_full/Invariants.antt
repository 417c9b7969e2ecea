use Rattle.std.proofs.Common.{◌≡◌, take}
use Rattle.std.specs.List.{AllByRecursion}
use Rattle.col_model.specs.Index.{full_shape}
use Rattle.col_index.specs.Indexes.{shape_of}
use Rattle.col_indexer.proofs.merge.are_full.Given as goal

-- those that were passed are Full
abbrev pub invariant-loop-index : goal.invariant-loop-index
invariant-loop-index l = AllByRecursion (λ index. shape_of index ≡ full_shape) (take l.index-index l.column_indexes)
