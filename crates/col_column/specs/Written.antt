-- The bytes of columns, as calls write them. States docs/FORMAT.md, sections 9 and 12.
use Rattle.std.specs.Prelude.{◌≡◌, ◌⊎◌, ◌≤◌, ℕ, ℤ, true, List, [], ◌∷◌, ◌++◌, map, length, unwrap_or, Some, Result, Err, OnOk}
use Rattle.std.specs.List.{list_all}
use Rattle.col_common.specs.Outside.{SeenSink, Grows, Faulted}
use Rattle.col_common.specs.Serializing.{Serializes}
use Rattle.col_common.specs.Walks.{int_range}
use Rattle.col_common.specs.declared.error.ColumnarError.{ColumnarError}
use Rattle.col_common.specs.declared.error.ColumnarError.TheVariants.{OutOfMemory, WriteFault}
use Rattle.col_model.specs.AddressList.{values128}
use Rattle.col_model.specs.Codecs.{chosen_codec, codec_bytes}
use Rattle.col_model.specs.Column.{is_stored, stored_numbers, number_rows}
use Rattle.col_model.specs.ColumnType.{ColumnType}
use Rattle.col_model.specs.Index.{Shape}
use Rattle.col_model.specs.Spelling.{column_bytes}
use Rattle.col_model.specs.U64List.{values64}
use Rattle.col_model.specs.Version.{current_version}
use Rattle.col_values.specs.Codes.{i64_code}
use Rattle.col_indexer.specs.Spelling.{Index, full_index, index_bytes}
use Rattle.col_column.specs.Columns.{row_count}
use Rattle.col_column.specs.Opened.{counted_rows}

-- the codes of the codecs that the numbers of a column are offered: Bitpacked, BlockwiseLinear
abbrev pub column_codecs : List ℕ
column_codecs = 0 ∷ 2 ∷ []

-- numbers under the codec that is chosen among these
unfoldable pub numbers_bytes : List ℕ → List ℕ → List ℕ
numbers_bytes codecs xs = codec_bytes (unwrap_or (chosen_codec xs codecs) 0) xs

-- an index, such numbers, and the index's length
unfoldable pub number_column_bytes : List ℕ → Index → List ℕ → List ℕ
number_column_bytes codecs i xs = column_bytes (index_bytes i) (numbers_bytes codecs xs)

-- a column of this type may store these numbers, as a list of numbers of 64 bits
pub record Stores64 (t : ColumnType) (xs : List ℕ) : Type 0 where
  pub list : (bytes : List ℕ) → stored_numbers t bytes ≡ values64 bytes
  pub images : list_all (is_stored t) xs ≡ true

-- bytes stand for these rows, in a column of any type that may store the numbers
abbrev pub StandForRows : List ℕ → Shape → List ℕ → Type 0
StandForRows bytes s xs = (t : ColumnType) → Stores64 t xs →
    number_rows bytes t current_version (row_count s (length xs)) ≡ Some (counted_rows s xs)

-- Ok added bytes that stand for numbers of 128 bits, and others behind them; a refusal has a cause.
pub record SerializesBehind (old new : SeenSink) (result : Result (Unit {0}) ColumnarError)
    (xs behind : List ℕ) : Type 0 where
  pub bytes : List ℕ
  pub again : OnOk result (values128 bytes ≡ Some xs)
  pub written : Serializes old new result (bytes ++ behind)

-- Ok added bytes that stand for the rows of a column of this type; a refusal has a cause.
pub record SerializesRows (old new : SeenSink) (result : Result (Unit {0}) ColumnarError)
    (t : ColumnType) (s : Shape) (xs : List ℕ) : Type 0 where
  pub bytes : List ℕ
  pub again : OnOk result
      (number_rows bytes t current_version (row_count s (length xs)) ≡ Some (counted_rows s xs))
  pub written : Serializes old new result bytes

-- the answer is this refusal, or want of memory, or a fault of the sink; what the sink held stays
-- in front
pub record Refused (old new : SeenSink) (result : Result (Unit {0}) ColumnarError)
    (refusal : ColumnarError) : Type 0 where
  pub grown : Grows old new
  pub later : old.faults ≤ new.faults
  pub write_fault : result ≡ Err WriteFault → Faulted old new
  pub refused : (result ≡ Err refusal) ⊎ (result ≡ Err OutOfMemory) ⊎ (result ≡ Err WriteFault)

-- the bytes of a Full column of numbers that rise by 1
abbrev pub tie_column_bytes : ℤ → ℕ → List ℕ
tie_column_bytes start n =
    number_column_bytes (0 ∷ 1 ∷ 2 ∷ []) full_index (map i64_code (int_range start n))
