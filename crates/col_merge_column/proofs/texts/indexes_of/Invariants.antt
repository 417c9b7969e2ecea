use Rattle.std.proofs.Common.{◌≡◌, map, take}
use Rattle.col_index.specs.Indexes.{shape_of}
use Rattle.col_merge_texts.specs.Merged.{shapes_of}
use Rattle.col_merge_column.proofs.texts.indexes_of.Given as goal

abbrev pub invariant-loop-column : goal.invariant-loop-column
invariant-loop-column l =
    map shape_of l.indexes.items ≡ shapes_of (take l.column-index l.bytes_columns)
