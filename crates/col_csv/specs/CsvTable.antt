-- The tables of CSV texts. States docs/RULES.md, Tables as CSV.
use Rattle.std.specs.Prelude.{◌≡◌, ◌<◌, ◌≤◌, ℕ, ◌+◌, ◌==◌, ◌&&◌, pos, Bool, List, [], ◌∷◌, take, drop, length, position, get_or, codes, bytes_eq, decimal, if◌then◌else◌, Option, Some, None}
use Rattle.std.specs.Int.Digits.{number_from_digits}
use Rattle.std.specs.List.{list_all, range_with_len, zip}
use Rattle.std.specs.Result.{result_ok}
use Rattle.std.specs.Str.Parse.{signed_digits_value}
use Rattle.csv.specs.Reading.{default_config, records, strip_bom}
use Rattle.hex.specs.Hex.{decode_of}
use Rattle.col_common.specs.Reading.{◌>>=◌, only_if}
use Rattle.col_model.specs.ColumnType.{ColumnType}
use Rattle.col_model.specs.ColumnType as types
use Rattle.col_model.specs.File.{for_each}
use Rattle.col_model.specs.Keys.{Key, are_keys, is_name}
use Rattle.col_model.specs.Limits.{is_of_type, tightest}
use Rattle.col_model.specs.Sound.{IsSound}
use Rattle.col_model.specs.Table.{Cell, Content, Column, Table}
use Rattle.col_model.specs.Table as cells
use Rattle.col_model.specs.U64List.{joined_lists}
use Rattle.col_model.specs.Written.{texts_of}
use Rattle.col_program.specs.Outcome.{max_script_length}
use Rattle.col_program.specs.Values.{type_named}
use Rattle.col_csv.specs.Csv.{colon, csv_of, equals, IsFlat, records_of, value_text}

-- ---- values

-- the bytes of hexadecimal digits
abbrev pub digit_bytes : List ℕ → Option (List ℕ)
digit_bytes s = result_ok (decode_of s)

-- the value that a text spells, in one form or another
abbrev pub spelled : ColumnType → List ℕ → Option Cell
spelled types.i64 s = Some (cells.number (signed_digits_value 10 s))
spelled types.u64 s = Some (cells.number (signed_digits_value 10 s))
spelled types.datetime s = Some (cells.number (signed_digits_value 10 s))
spelled types.bool s = Some (cells.number (pos (if bytes_eq s (codes "true") then 1 else 0)))
spelled types.ip s = digit_bytes s >>= λ b. Some (cells.number (pos (number_from_digits 256 b)))
spelled types.bytes s = digit_bytes s >>= λ b. Some (cells.text b)
spelled types.str s = Some (cells.text s)

-- the value of the type whose text this is: no other form of it is one
abbrev pub value_of_text : ColumnType → List ℕ → Option Cell
value_of_text t s = do
  c ← spelled t s
  only_if (is_of_type t c && bytes_eq (value_text t c) s) c

-- the cells of a field: none of an empty one, else the value behind its mark
abbrev pub cells_of_field : ColumnType → List ℕ → Option (List Cell)
cells_of_field t [] = Some []
cells_of_field t (mark ∷ s) = do
  c ← value_of_text t s
  only_if (mark == equals) (c ∷ [])

-- ---- records

-- the key that a heading spells: a type, and behind the first colon a name
abbrev pub key_of_heading : List ℕ → Option Key
key_of_heading s = do
  i ← position (λ b. b == colon) s
  t ← type_named (take i s)
  only_if (is_name (drop (i + 1) s)) (record { name = drop (i + 1) s; column_type = t })

-- the keys of the first record: a mark, and headings whose keys are those of a file
abbrev pub keys_of_header : List (List ℕ) → Option (List Key)
keys_of_header [] = None
keys_of_header (mark ∷ headings) = do
  keys ← for_each key_of_heading headings
  only_if (bytes_eq mark (codes "#") && are_keys keys) keys

-- a record behind the first is that of row d: it begins with that number, and has so many fields
abbrev pub is_record_of : ℕ → ℕ × List (List ℕ) → Bool
is_record_of count (d, fields) =
    (length fields == count) && bytes_eq (get_or fields 0 []) (decimal d)

-- the records, with the numbers of their rows
abbrev pub numbered : {A : Type 0} → List A → List (ℕ × A)
numbered xs = zip (range_with_len 0 (length xs)) xs

-- ---- tables

-- what stands in a column that is as tight as its rows, with their texts as its terms
abbrev pub flat_content : List (List Cell) → Content
flat_content rows = record {
  cardinality = tightest rows;
  terms = texts_of (joined_lists rows);
  rows = rows;
}

-- the column of a key, whose fields stand at this place of the records
abbrev pub column_of_fields : List (List (List ℕ)) → ℕ × Key → Option Column
column_of_fields rows (i, k) = do
  found ← for_each (λ fields. cells_of_field k.column_type (get_or fields i [])) rows
  Some (record { name = k.name; column_type = k.column_type; content = flat_content found })

-- the keys, with the places of their fields
abbrev pub placed : List Key → List (ℕ × Key)
placed keys = zip (range_with_len 1 (length keys)) keys

-- the table of records: the first has the keys, and each other is that of a row
abbrev pub table_of_records : List (List (List ℕ)) → Option Table
table_of_records [] = None
table_of_records (header ∷ rows) = do
  keys ← keys_of_header header
  columns ← for_each (column_of_fields rows) (placed keys)
  only_if (list_all (is_record_of (length header)) (numbered rows))
      (record { row_count = length rows; columns = columns })

-- The table of a text: that of the records which the kit's reader finds in it at its defaults,
-- with no header row, behind a byte order mark if there is one.
unfoldable pub table_of_csv : List ℕ → Option Table
table_of_csv bytes = table_of_records (records default_config (strip_bom bytes))

-- ---- laws

-- The text of a table that is flat and sound leads back to the table.
abbrev pub TextsLeadBack : Type 0
TextsLeadBack = (t : Table) → IsFlat t → IsSound t → table_of_csv (csv_of t) ≡ Some t

-- The table of a text is flat, and the text's records are the table's own.
pub record IsSpelledBy (bytes : List ℕ) (t : Table) : Type 0 where
  pub flat : IsFlat t
  pub same : records default_config (strip_bom bytes) ≡ records_of t.columns t.row_count

-- No text has a table in another form than the table's own.
abbrev pub TextsAreExact : Type 0
TextsAreExact = (bytes : List ℕ) (t : Table) → table_of_csv bytes ≡ Some t → IsSpelledBy bytes t

-- The table of a text that isn't too long is sound.
abbrev pub TextsAreSound : Type 0
TextsAreSound = (bytes : List ℕ) (t : Table)
    → ((i : ℕ) → get_or bytes i 0 < 256)
    → length bytes ≤ max_script_length → table_of_csv bytes ≡ Some t → IsSound t
