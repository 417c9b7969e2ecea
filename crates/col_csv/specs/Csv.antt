-- Tables as CSV: the text of a table, and which tables such a text says whole. States
-- docs/RULES.md, Tables as CSV.
use Rattle.std.specs.Prelude.{◌≡◌, ℕ, ℤ, pos, negsuc, ◌==◌, Bool, false, List, [], ◌∷◌, ◌++◌, map, flat_map, codes, decimal, if◌then◌else◌}
use Rattle.std.specs.Fmt.{signed_decimal}
use Rattle.std.specs.Int.{w128, to_be_bytes}
use Rattle.std.specs.List.{AllByRecursion, list_any, range_with_len}
use Rattle.csv.specs.Writing.{default_writer, row_text}
use Rattle.hex.specs.Hex.{encode_lower}
use Rattle.col_model.specs.ColumnType.{ColumnType, type_name}
use Rattle.col_model.specs.ColumnType as types
use Rattle.col_model.specs.Limits.{is_multivalued, tightest}
use Rattle.col_model.specs.Lookup.{row_of}
use Rattle.col_model.specs.Table.{Cell, Column, Table}
use Rattle.col_model.specs.Table as cells
use Rattle.col_model.specs.U64List.{joined_lists}
use Rattle.col_model.specs.Written.{texts_of}

-- ---- fields

-- true or false
abbrev pub flag_text : ℤ → List ℕ
flag_text (pos n) = if n == 0 then codes "false" else codes "true"
flag_text (negsuc n) = codes "true"

-- the 32 digits of an address
abbrev pub address_text : ℤ → List ℕ
address_text (pos n) = encode_lower (to_be_bytes w128 n)
address_text (negsuc n) = encode_lower (to_be_bytes w128 0)

-- the text of a value: a number in decimal, a flag by its word, an address and bytes by their
-- digits in hexadecimal, a text as it is
abbrev pub value_text : ColumnType → Cell → List ℕ
value_text types.bool (cells.number z) = flag_text z
value_text types.ip (cells.number z) = address_text z
value_text types.i64 (cells.number z) = signed_decimal z
value_text types.u64 (cells.number z) = signed_decimal z
value_text types.datetime (cells.number z) = signed_decimal z
value_text types.str (cells.number z) = signed_decimal z
value_text types.bytes (cells.number z) = signed_decimal z
value_text types.bytes (cells.text s) = encode_lower s
value_text types.str (cells.text s) = s
value_text types.bool (cells.text s) = s
value_text types.ip (cells.text s) = s
value_text types.i64 (cells.text s) = s
value_text types.u64 (cells.text s) = s
value_text types.datetime (cells.text s) = s

-- the byte in front of a value, and the one between a type and a name
abbrev pub equals : ℕ
equals = 61

abbrev pub colon : ℕ
colon = 58

-- the field of a row that has at most one value: empty, or the value behind its mark
abbrev pub field_of : ColumnType → List Cell → List ℕ
field_of t [] = []
field_of t (c ∷ others) = equals ∷ value_text t c

-- the field of a column's name, behind its type
abbrev pub heading : Column → List ℕ
heading c = type_name c.column_type ++ colon ∷ c.name

-- ---- records

-- the first record: a mark, and the columns in the order of their keys
abbrev pub header_fields : List Column → List (List ℕ)
header_fields columns = codes "#" ∷ map heading columns

-- the record of a row: its number, and a field for each column
abbrev pub row_fields : List Column → ℕ → List (List ℕ)
row_fields columns d =
    decimal d ∷ map (λ c. field_of c.column_type (row_of c.content d)) columns

-- the records of rows from 0 on, so many
abbrev pub row_records : List Column → ℕ → List (List (List ℕ))
row_records columns count = map (row_fields columns) (range_with_len 0 count)

-- the records of columns of so many rows: the first, and one for each row behind it
abbrev pub records_of : List Column → ℕ → List (List (List ℕ))
records_of columns count = header_fields columns ∷ row_records columns count

-- the text of a record, as the kit's writer has it by its defaults, with a line feed behind it
unfoldable pub record_text : List (List ℕ) → List ℕ
record_text fields = row_text default_writer fields

-- the texts of records, one behind another
abbrev pub records_text : List (List (List ℕ)) → List ℕ
records_text records = flat_map record_text records

-- The text of a table.
unfoldable pub csv_of : Table → List ℕ
csv_of t = records_text (records_of t.columns t.row_count)

-- ---- tables

-- a column may have more than one value in a row
abbrev pub is_multivalued_column : Column → Bool
is_multivalued_column c = is_multivalued c.content.cardinality

-- some column of a table may
abbrev pub has_multivalued : Table → Bool
has_multivalued t = list_any is_multivalued_column t.columns

-- The text says all of a column: no row has more than one value, the cardinality is the tightest
-- of the rows, and the terms are the cells.
pub record IsFlatColumn (c : Column) : Type 0 where
  pub few : is_multivalued_column c ≡ false
  pub cardinality : c.content.cardinality ≡ tightest c.content.rows
  pub terms : c.content.terms ≡ texts_of (joined_lists c.content.rows)

-- The text says all of each column.
abbrev pub IsFlat : Table → Type 0
IsFlat t = AllByRecursion IsFlatColumn t.columns
