-- Laws about written indexes: public calls ensure them, and have nothing else to do.
use Rattle.std.specs.Prelude.{◌≡◌, false, Some}
use Rattle.col_model.specs.Index.{RowSet, RowOffsets, row_set, row_offsets, shape}
use Rattle.col_model.specs.Version.{current_version}
use Rattle.col_indexer.specs.Spelling.{Index, optional_index, multivalued_index, index_shape}
use Rattle.col_indexer.specs.Spelling.{row_set_bytes, row_offsets_bytes, index_bytes}
use Rattle.col_indexer.specs.Spelling.{IsIndex, is_past_limit}

-- what is written of an index within the limit is read back
pub record IndexesAreReadBack : Type 0 where
  pub rows : (s : RowSet) → IsIndex (optional_index s)
      → row_set current_version (row_set_bytes s) ≡ Some s
  pub offsets : (o : RowOffsets) → IsIndex (multivalued_index o)
      → is_past_limit (multivalued_index o) ≡ false
      → row_offsets current_version (row_offsets_bytes o) ≡ Some o
  pub index : (i : Index) → IsIndex i → is_past_limit i ≡ false
      → shape (index_bytes i) current_version ≡ Some (index_shape i)
