-- When a table is sound. States docs/RULES.md, Sound tables.
use Rattle.std.specs.Prelude.{◌≡◌, ℕ, ◌<◌, ◌^◌, ◌==◌, nat_le, IsTrue, Bool, true, false, List, [], map, filter, length, bytes_eq, Some}
use Rattle.std.specs.List.{list_all, list_any, AllByRecursion}
use Rattle.col_common.specs.Reading.{IsBytes}
use Rattle.col_common.specs.Ascending.{are_below, is_ascending}
use Rattle.col_model.specs.ColumnType.{is_numerical, has_terms}
use Rattle.col_model.specs.Table.{Cell, number, text, Cardinality, full, optional, multivalued, Column, Table}
use Rattle.col_model.specs.Keys.{Key, key_bytes, is_name}
use Rattle.col_model.specs.File.{table_of}
use Rattle.col_model.specs.Limits.{is_of_type, is_too_large}

-- the key of a column
abbrev pub key_of_column : Column → Key
key_of_column c = record { name = c.name; column_type = c.column_type }

-- a row of this cardinality: one cell, at most one, any number
abbrev pub is_row_of : Cardinality → List Cell → Bool
is_row_of full row = length row == 1
is_row_of optional row = nat_le (length row) 1
is_row_of multivalued row = true

-- the cell is a number or one of the terms
abbrev pub is_among : List (List ℕ) → Cell → Bool
is_among found (number z) = true
is_among found (text s) = list_any (bytes_eq s) found

-- the numbers of a text are bytes
abbrev pub are_bytes : List ℕ → Bool
are_bytes s = are_below 256 s

-- the cell is a number, or a text of bytes
abbrev pub has_bytes : Cell → Bool
has_bytes (number z) = true
has_bytes (text s) = are_bytes s

-- The column has n rows of its cardinality, with cells of its type. Its terms are bytes, strictly
-- ascend and hold each text, and there are none but for str and bytes. It is within the limits.
pub record IsSoundColumn (n : ℕ) (c : Column) : Type 0 where
  pub name : IsTrue (is_name c.name)
  pub row_count : length c.content.rows ≡ n
  pub cardinality : IsTrue (list_all (is_row_of c.content.cardinality) c.content.rows)
  pub cells : IsTrue (list_all (list_all (is_of_type c.column_type)) c.content.rows)
  pub bytes : IsTrue (list_all are_bytes c.content.terms)
  pub ascending : IsTrue (is_ascending c.content.terms)
  pub among : IsTrue (list_all (list_all (is_among c.content.terms)) c.content.rows)
  pub without : has_terms c.column_type ≡ false → c.content.terms ≡ []
  pub limits : is_too_large c.column_type c.content ≡ false

-- Columns ascend by name, then type code; at most one numerical column has a given name; each
-- column is sound; 32 bits count the rows.
pub record IsSound (t : Table) : Type 0 where
  pub row_count : t.row_count < 2 ^ 32
  pub ascending : IsTrue (is_ascending (map (λ c. key_bytes (key_of_column c)) t.columns))
  pub one_numerical : IsTrue
      (is_ascending (map (λ c. c.name) (filter (λ c. is_numerical c.column_type) t.columns)))
  pub columns : AllByRecursion (IsSoundColumn t.row_count) t.columns

-- Bytes that stand for a table give a sound one. Each number of the list has to be a byte:
-- greater ones could spell a number past its width.
abbrev pub DecodedIsSound : Type 0
DecodedIsSound = (bytes : List ℕ) (t : Table) → IsBytes bytes → table_of bytes ≡ Some t → IsSound t
