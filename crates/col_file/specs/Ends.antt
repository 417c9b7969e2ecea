-- The end of a file, part by part.
use Rattle.std.specs.Prelude.{ℕ, ◌==◌, List, Option}
use Rattle.col_common.specs.Reading.{◌>>=◌, only_if}
use Rattle.col_model.specs.Keys.{Key, FileFooter, FileKeys, entries_from, key_table, total_length}

-- what a footer says with the keys that stand before it, where the columns take so many bytes
abbrev pub keys_found : FileFooter → ℕ → List (Key × ℕ) → Option FileKeys
keys_found f body_len found = only_if (total_length found == body_len)
    (record { row_count = f.row_count; version = f.version; entries = entries_from 0 found })

-- the same by the bytes of the key table
abbrev pub keys_behind : FileFooter → ℕ → List ℕ → Option FileKeys
keys_behind f body_len table = key_table table >>= keys_found f body_len
