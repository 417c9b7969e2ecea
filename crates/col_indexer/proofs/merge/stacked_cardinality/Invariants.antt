use Rattle.std.proofs.Common.{◌≡◌, map, drop, fold}
use Rattle.col_model.specs.Merge.{greater_cardinality}
use Rattle.col_index.specs.Indexes.{shape_of}
use Rattle.col_indexer.specs.Merged.{stacked_cardinality_of}
use Rattle.col_index.specs.Offsets.{cardinality_in}
use Rattle.col_index.specs.Versions.{cardinality_of}
use Rattle.col_indexer.proofs.merge.stacked_cardinality.Given as goal

-- what is left raises the greatest so far to that of all
abbrev pub invariant-loop-index : goal.invariant-loop-index
invariant-loop-index l =
    fold greater_cardinality (cardinality_of l.greatest) (map cardinality_in (map shape_of (drop l.index-index l.column_indexes)))
    ≡ stacked_cardinality_of (map shape_of l.column_indexes)
