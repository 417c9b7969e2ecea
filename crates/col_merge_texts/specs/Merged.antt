-- What stands in the merged column of columns of terms. States docs/RULES.md, Merged tables.
use Rattle.std.specs.Prelude.{◌≡◌, ℕ, ◌^◌, nat_le, Bool, true, false, List, [], map, slice_get, unwrap_or, option_map, Result}
use Rattle.col_common.specs.Outside.{SeenSink}
use Rattle.col_common.specs.Serializing.{Stopped}
use Rattle.col_common.specs.declared.error.ColumnarError.{ColumnarError}
use Rattle.col_common.specs.declared.error.ColumnarError.TheVariants.{TooLarge}
use Rattle.col_model.specs.ColumnType.{ColumnType}
use Rattle.col_model.specs.Index.{Shape}
use Rattle.col_model.specs.Limits.{dictionary_length}
use Rattle.col_model.specs.Lookup.{row_of}
use Rattle.col_model.specs.Order.{Order, stack, shuffle}
use Rattle.col_model.specs.Table.{Cell, Content}
use Rattle.col_model.specs.U64List.{joined_lists}
use Rattle.col_model.specs.Written.{texts_of}
use Rattle.col_order.specs.Orders.{counts_of, picks_of}
use Rattle.col_indexer.specs.Merged.{merged_cardinality}
use Rattle.col_writer_rows.specs.Counted.{SerializesColumn}
use Rattle.col_column.specs.Columns.{num_docs_in}
use Rattle.col_numbers.specs.NumValues.{num_values_of}
use Rattle.col_terms.specs.Building.{ordered}
use Rattle.col_text.specs.Texts.{Texts, texts_content}
use Rattle.col_merge_texts.specs.Items.{terms_of}

-- one column for each segment of an order, of the segment's rows
abbrev pub FitTexts : Order → List Texts → Type 0
FitTexts order columns = map (λ c. num_docs_in num_values_of c.ords) columns ≡ counts_of order

-- the shapes of the columns
abbrev pub shapes_of : List Texts → List Shape
shapes_of columns = map (λ c. c.ords.shape) columns

-- the cells of the row that a pick names
abbrev pub picked_cells : List Texts → ℕ × ℕ → List Cell
picked_cells columns p =
    unwrap_or (option_map (λ c. row_of (texts_content c) p.1) (slice_get columns p.0)) []

-- the terms in order: of a stack those of all columns, of a shuffle the picked ones
abbrev pub merged_terms : List Texts → Order → List (List ℕ)
merged_terms columns (stack counts) = ordered (joined_lists (terms_of columns))
merged_terms columns (shuffle counts rows) =
    texts_of (joined_lists (map (picked_cells columns) rows))

-- what stands in the merged column: row i has the cells of the row that pick i names
abbrev pub merged_content : List Texts → Order → Content
merged_content columns order = record {
  cardinality = merged_cardinality order (shapes_of columns);
  terms = merged_terms columns order;
  rows = map (picked_cells columns) (picks_of order);
}

-- 32 bits don't count the bytes of the merged terms
abbrev pub has_long_terms : List Texts → Order → Bool
has_long_terms columns order = nat_le (2 ^ 32) (dictionary_length (merged_terms columns order))

-- Too long terms are refused before the first byte, and other columns are written.
abbrev pub MergesTexts : Bool → SeenSink → SeenSink → Result (Unit {0}) ColumnarError
    → ColumnType → ℕ → Content → Type 0
MergesTexts true old new result t n content = Stopped old new result TooLarge
MergesTexts false old new result t n content = SerializesColumn old new result t n content
