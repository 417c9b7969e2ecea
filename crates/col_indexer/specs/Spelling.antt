-- The bytes of indexes. States docs/FORMAT.md, sections 7, 8 and 12.
use Rattle.std.specs.Prelude.{ℕ, ◌-◌, ◌<◌, ◌^◌, nat_le, Bool, false, List, [], ◌∷◌, ◌++◌, length, unwrap_or, if◌then◌else◌}
use Rattle.std.specs.Int.{w64, to_le_bytes}
use Rattle.col_common.specs.VInt.{vint_bytes}
use Rattle.col_model.specs.Codecs.{chosen_codec, codec_bytes}
use Rattle.col_model.specs.Index.{RowSet, RowOffsets, set_counts, offset_counts}
use Rattle.col_model.specs.Index.{runs_of, run_starts, run_lengths, are_in_runs}
use Rattle.col_model.specs.Index.{Shape, full_shape, optional_shape, multivalued_shape}
use Rattle.col_index.specs.Sets.{AreRows}
use Rattle.col_index.specs.Offsets.{AreOffsets}

-- the codes of the codecs that lists of an index are offered: Bitpacked, Linear
abbrev pub index_codecs : List ℕ
index_codecs = 0 ∷ 1 ∷ []

-- a list of an index, under the codec that is chosen
unfoldable pub index_list_bytes : List ℕ → List ℕ
index_list_bytes xs = codec_bytes (unwrap_or (chosen_codec xs index_codecs) 0) xs

-- the row count, and the rows with a value one by one
unfoldable pub listed_bytes : RowSet → List ℕ
listed_bytes s = vint_bytes s.num_rows ++ index_list_bytes s.rows

-- where runs start, how long they are, and how many bytes the starts take
unfoldable pub run_list_bytes : List (ℕ × ℕ) → List ℕ
run_list_bytes runs =
    let starts = index_list_bytes (run_starts runs) in
    starts ++ (index_list_bytes (run_lengths runs) ++ to_le_bytes w64 (length starts))

-- a row count, and runs
unfoldable pub run_bytes : ℕ → List (ℕ × ℕ) → List ℕ
run_bytes n runs = vint_bytes n ++ run_list_bytes runs

-- behind the byte of the form, the rows with a value: their runs where these hold more than 32
-- rows each, on the average, else one by one
unfoldable pub row_set_bytes : RowSet → List ℕ
row_set_bytes s =
    if are_in_runs s.rows then 1 ∷ run_bytes s.num_rows (runs_of s.rows)
    else 0 ∷ listed_bytes s

-- the rows with a value, their start offsets, and how many bytes the rows take
unfoldable pub row_offsets_bytes : RowOffsets → List ℕ
row_offsets_bytes o =
    row_set_bytes o.set
    ++ (index_list_bytes o.starts ++ to_le_bytes w64 (length (row_set_bytes o.set)))

-- rows of so many rows
abbrev pub row_set_by : ℕ → List ℕ → RowSet
row_set_by n rows = record { num_rows = n; rows = rows }

-- rows of so many rows, and their start offsets
abbrev pub offsets_by_rows : ℕ → List ℕ → List ℕ → RowOffsets
offsets_by_rows n rows starts =
    record { set = record { num_rows = n; rows = rows }; starts = starts }

-- an index on its way
pub data Index : Type 0 where
  full_index : Index
  optional_index : RowSet → Index
  multivalued_index : RowOffsets → Index

-- what stands behind the code of its cardinality
abbrev pub body_bytes : Index → List ℕ
body_bytes full_index = []
body_bytes (optional_index s) = row_set_bytes s
body_bytes (multivalued_index o) = row_offsets_bytes o

-- its bytes: the code of its cardinality, and its rows
unfoldable pub index_bytes : Index → List ℕ
index_bytes full_index = 0 ∷ []
index_bytes (optional_index s) = 1 ∷ row_set_bytes s
index_bytes (multivalued_index o) = 2 ∷ row_offsets_bytes o

-- its shape
abbrev pub index_shape : Index → Shape
index_shape full_index = full_shape
index_shape (optional_index s) = optional_shape (set_counts s)
index_shape (multivalued_index o) = multivalued_shape (offset_counts o)

-- rows that rise and stay below a count of 32 bits
pub record AreRowsOf32 (s : RowSet) : Type 0 where
  pub rows : AreRows s
  pub fits : s.num_rows < 2 ^ 32

-- the same with start offsets
pub record AreOffsetsOf32 (o : RowOffsets) : Type 0 where
  pub offsets : AreOffsets o
  pub fits : o.set.num_rows < 2 ^ 32

-- Rows rise and stay below their count of 32 bits, and offsets are theirs.
abbrev pub IsIndex : Index → Type 0
IsIndex full_index = Unit {0}
IsIndex (optional_index s) = AreRowsOf32 s
IsIndex (multivalued_index o) = AreOffsetsOf32 o

-- It is Multivalued, and has more rows that aren't empty than may be.
abbrev pub is_past_limit : Index → Bool
is_past_limit full_index = false
is_past_limit (optional_index s) = false
is_past_limit (multivalued_index o) = nat_le (2 ^ 32 - 1) (length o.set.rows)
