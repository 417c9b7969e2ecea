-- Texts of a column, by the ids of their terms.
use Rattle.std.specs.Prelude.{◌≡◌, ℕ, true, false, Bool, List, length, map, zip, bytes_eq, slice_index, ◌++◌, Some, Result, OnOk}
use Rattle.std.specs.Int.{w32, to_le_bytes}
use Rattle.std.specs.List.{IsDistinct}
use Rattle.col_common.specs.Outside.{SeenSink}
use Rattle.col_common.specs.Serializing.{Serializes}
use Rattle.col_common.specs.declared.error.ColumnarError.{ColumnarError}
use Rattle.col_common.specs.Ascending.{are_below}
use Rattle.col_model.specs.Column.{term_cell, number_rows}
use Rattle.col_model.specs.ColumnType.{ColumnType}
use Rattle.col_model.specs.Dictionary.{cut}
use Rattle.col_model.specs.Table.{Cell, Content}
use Rattle.col_model.specs.Version.{current_version}
use Rattle.col_column.specs.Counted.{tightest_of}
use Rattle.col_terms.specs.Building.{ordered, is_too_long}
use Rattle.col_writer_rows.specs.Rows.{rows_content}

-- Each id has a term, no term is there twice, and 32 bits count the bytes of their dictionary.
pub record AreTermIds (terms : List (List ℕ)) (ids : List ℕ) : Type 0 where
  pub known : are_below (length terms) ids ≡ true
  pub differ : IsDistinct bytes_eq terms
  pub fits : is_too_long terms ≡ false

-- the ordinal of an id
abbrev pub ord_by : List ℕ → ℕ → ℕ
ord_by ords id = slice_index ords id

-- the texts of ids, each beside its document
abbrev pub text_cells : List (List ℕ) → List ℕ → List ℕ → List (ℕ × Cell)
text_cells terms docs ids = zip docs (map (term_cell terms) ids)

-- what stands in a column of texts, whose rows are sorted where the flag is set
abbrev pub text_content : Bool → List ℕ → List ℕ → List (List ℕ) → List ℕ → Content
text_content sorts row_docs docs terms ids =
    rows_content sorts row_docs (ordered terms) (text_cells terms docs ids)

-- Ok added bytes that stand for numbers of this type, cut into rows of so many each, and how many
-- bytes the dictionary in front takes; a refusal has a cause.
pub record SerializesBehindTerms (old new : SeenSink) (result : Result (Unit {0}) ColumnarError)
    (t : ColumnType) (cs xs : List ℕ) (dictionary_len : ℕ) : Type 0 where
  pub bytes : List ℕ
  pub again : OnOk result (number_rows bytes t current_version (length cs)
      ≡ Some (record { cardinality = tightest_of cs; of_rows = cs }, cut cs xs))
  pub written : Serializes old new result (bytes ++ to_le_bytes w32 dictionary_len)
