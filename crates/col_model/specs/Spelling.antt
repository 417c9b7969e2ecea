-- How the parts of a file are spelled, whichever bytes its columns have. States docs/FORMAT.md,
-- sections 9 to 11.
use Rattle.std.specs.Prelude.{ℕ, List, ◌++◌, map, length, flat_map}
use Rattle.std.specs.Int.{w32, w64, to_le_bytes}
use Rattle.col_common.specs.VInt.{vint_bytes}
use Rattle.col_model.specs.Keys.{Key, key_bytes}
use Rattle.col_model.specs.Version.{version_bytes}
use Rattle.col_model.specs.U64List.{joined_lists}

-- index and values, with the index's length behind them
unfoldable pub column_bytes : List ℕ → List ℕ → List ℕ
column_bytes index values = (index ++ values) ++ to_le_bytes w64 (length index)

-- a key with the length of its column's bytes
unfoldable pub keyed_length_bytes : Key × ℕ → List ℕ
keyed_length_bytes p = vint_bytes (length (key_bytes p.0)) ++ (key_bytes p.0 ++ vint_bytes p.1)

-- the key table: how many keys, and each with its length
unfoldable pub key_table_bytes : List (Key × ℕ) → List ℕ
key_table_bytes ps = vint_bytes (length ps) ++ flat_map keyed_length_bytes ps

-- the footer of a file, of the current version
unfoldable pub footer_bytes : ℕ → ℕ → List ℕ
footer_bytes table_length row_count =
    to_le_bytes w64 table_length ++ (to_le_bytes w32 row_count ++ version_bytes)

-- each key with the length of its column
abbrev pub keyed_lengths : List (Key × List ℕ) → List (Key × ℕ)
keyed_lengths ps = map (λ p. (p.0, length p.1)) ps

-- a file of the row count, with these columns' bytes
unfoldable pub file_bytes : ℕ → List (Key × List ℕ) → List ℕ
file_bytes row_count ps =
    let table = key_table_bytes (keyed_lengths ps) in
    (joined_lists (map (λ p. p.1) ps) ++ table) ++ footer_bytes (length table) row_count
