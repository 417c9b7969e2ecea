-- The key table and the footer of a file. States docs/FORMAT.md, sections 10 and 11.
use Rattle.std.specs.Prelude.{ℕ, ◌+◌, ◌==◌, ◌&&◌, not, Bool, List, [], ◌∷◌, ◌++◌, map, length, filter, sum_by, slice_index, Option, Some}
use Rattle.std.specs.Int.{w32, w64}
use Rattle.std.specs.List.{list_all}
use Rattle.std.specs.Str.{is_utf8}
use Rattle.col_common.specs.Reading.{◌>>=◌, only_if, nothing_left, front, back, le_number, items}
use Rattle.col_common.specs.VInt.{vint}
use Rattle.col_common.specs.Ascending.{is_ascending}
use Rattle.col_model.specs.ColumnType.{ColumnType, type_code, type_of_code, is_numerical}
use Rattle.col_model.specs.Version.{version_of}

-- the key of a column: its name and its type
pub record Key : Type 0 where
  pub name : List ℕ
  pub column_type : ColumnType

-- a key's bytes: the name, a zero byte, the type's code
abbrev pub key_bytes : Key → List ℕ
key_bytes k = k.name ++ 0 ∷ type_code k.column_type ∷ []

-- a name is UTF-8 without a zero byte
abbrev pub is_name : List ℕ → Bool
is_name name = is_utf8 name && list_all (λ b. not (b == 0)) name

-- the key that the bytes spell
unfoldable pub key_of : List ℕ → Option Key
key_of bytes = do
  parts ← back 2 bytes
  t ← type_of_code (slice_index parts.1 1)
  only_if (is_name parts.0 && (slice_index parts.1 0 == 0))
      (record { name = parts.0; column_type = t })

-- A key with the length of its column's bytes, and the bytes behind them.
unfoldable pub keyed_length : List ℕ → Option ((Key × ℕ) × List ℕ)
keyed_length bytes = do
  n ← vint bytes
  parts ← front n.0 n.1
  k ← key_of parts.0
  size ← vint parts.1
  Some ((k, size.0), size.1)

-- keys strictly ascend by bytes, and at most one numerical key has a given name
abbrev pub are_keys : List Key → Bool
are_keys ks =
    is_ascending (map key_bytes ks)
    && is_ascending (map (λ k. k.name) (filter (λ k. is_numerical k.column_type) ks))

-- The key table, of all the bytes: each key with its column's length.
unfoldable pub key_table : List ℕ → Option (List (Key × ℕ))
key_table bytes = do
  n ← vint bytes
  found ← items keyed_length n.0 n.1 >>= nothing_left
  only_if (are_keys (map (λ p. p.0) found)) found

-- a key, and where its column's bytes start and end
pub record Entry : Type 0 where
  pub key : Key
  pub start : ℕ
  pub «end» : ℕ

-- columns follow one another from a place on
abbrev pub entries_from : ℕ → List (Key × ℕ) → List Entry
entries_from start [] = []
entries_from start (p ∷ ps) =
    record { key = p.0; start = start; «end» = start + p.1 } ∷ entries_from (start + p.1) ps

-- how long the columns are together
abbrev pub total_length : List (Key × ℕ) → ℕ
total_length ps = sum_by (λ p. p.1) ps

-- what the end of a file says: its row count, its version, and where each column stands
pub record FileKeys : Type 0 where
  pub row_count : ℕ
  pub version : ℕ
  pub entries : List Entry

-- the footer of a file
pub record FileFooter : Type 0 where
  pub table_length : ℕ
  pub row_count : ℕ
  pub version : ℕ

-- The footer: the key table's length, the row count, and the version.
unfoldable pub file_footer : List ℕ → Option FileFooter
file_footer bytes = do
  size ← le_number w64 bytes
  rows ← le_number w32 size.1
  version ← version_of rows.1
  Some (record { table_length = size.0; row_count = rows.0; version = version })

-- The row count, the version and the entries of a file. The columns' bytes end where the key
-- table begins.
unfoldable pub keys : List ℕ → Option FileKeys
keys bytes = do
  parts ← back 20 bytes
  f ← file_footer parts.1
  body ← back f.table_length parts.0
  found ← key_table body.1
  only_if (total_length found == length body.0)
      (record { row_count = f.row_count; version = f.version; entries = entries_from 0 found })
