-- What indexes that can be written mean.
use Rattle.std.specs.Prelude.{◌≡◌, ℕ, List, Result}
use Rattle.col_common.specs.Outside.{SeenSink}
use Rattle.col_common.specs.Serializing.{Serializes, done}
use Rattle.col_common.specs.declared.error.ColumnarError.{ColumnarError}
use Rattle.col_model.specs.Index.{RowSet, RowOffsets}
use Rattle.col_model.specs.Table as tables
use Rattle.col_index.specs.declared.cardinality.Cardinality.{Cardinality}
use Rattle.col_index.specs.declared.cardinality.Cardinality.TheVariants as cardinalities
use Rattle.col_indexer.specs.RowViews.{rows_of}
use Rattle.col_indexer.specs.OffsetViews.{start_offsets_of}
use Rattle.col_indexer.specs.Spelling as spelled
use Rattle.col_indexer.specs.declared.serialize.SerializableOptionalIndex.{SerializableOptionalIndex}
use Rattle.col_indexer.specs.declared.serialize.SerializableMultivalueIndex.{SerializableMultivalueIndex}
use Rattle.col_indexer.specs.declared.serialize.SerializableColumnIndex.{SerializableColumnIndex}
use Rattle.col_indexer.specs.declared.serialize.SerializableColumnIndex.TheVariants.{Full, Optional, Multivalued}

-- the rows with a value
abbrev pub set_of : SerializableOptionalIndex → RowSet
set_of i = record { num_rows = i.num_rows; rows = rows_of i.non_null_row_ids }

-- the rows with a value, and their start offsets
abbrev pub row_offsets_of : SerializableMultivalueIndex → RowOffsets
row_offsets_of i =
    record { set = set_of i.doc_ids_with_values; starts = start_offsets_of i.start_offsets }

-- the index
abbrev pub index_of : SerializableColumnIndex → spelled.Index
index_of Full = spelled.full_index
index_of (Optional i) = spelled.optional_index (set_of i)
index_of (Multivalued i) = spelled.multivalued_index (row_offsets_of i)

-- the cardinality of an index
abbrev pub cardinality_written : spelled.Index → tables.Cardinality
cardinality_written spelled.full_index = tables.full
cardinality_written (spelled.optional_index s) = tables.optional
cardinality_written (spelled.multivalued_index o) = tables.multivalued

-- an index of a cardinality, of so many rows: the rows with a value, and their start offsets
abbrev pub index_by : Cardinality → ℕ → List ℕ → List ℕ → spelled.Index
index_by cardinalities.Full n rows starts = spelled.full_index
index_by cardinalities.Optional n rows starts =
    spelled.optional_index (record { num_rows = n; rows = rows })
index_by cardinalities.Multivalued n rows starts =
    spelled.multivalued_index (spelled.offsets_by_rows n rows starts)

-- an index has these rows and start offsets, as far as it has any
abbrev pub HasLists : spelled.Index → List ℕ → List ℕ → Type 0
HasLists spelled.full_index rows starts = Unit {0}
HasLists (spelled.optional_index s) rows starts = rows ≡ s.rows
HasLists (spelled.multivalued_index o) rows starts = (rows ≡ o.set.rows) × (starts ≡ o.starts)

-- Ok added the bytes of a list, and a refusal has a cause.
abbrev pub SerializesIndexList : SeenSink → SeenSink → Result ℕ ColumnarError → List ℕ → Type 0
SerializesIndexList old new result xs =
    Serializes old new (done result) (spelled.index_list_bytes xs)
