-- The columns that were put into a file.
use Rattle.std.specs.Prelude.{◌≡◌, ℕ, ◌+◌, ◌^◌, ◌<◌, true, List, [], ◌++◌, length, map, flat_map, Some, Result, Ok, OnOk, OnErr}
use Rattle.std.specs.List.{AllByRecursion}
use Rattle.col_common.specs.Outside.{SeenSink}
use Rattle.col_common.specs.Serializing.{Serializes}
use Rattle.col_common.specs.VInt.{vint_bytes}
use Rattle.col_common.specs.declared.error.ColumnarError.{ColumnarError}
use Rattle.col_model.specs.Column.{column}
use Rattle.col_model.specs.File.{PartColumn, parts_of}
use Rattle.col_model.specs.Keys.{Key, is_name, are_keys, entries_from, FileKeys, keys}
use Rattle.col_model.specs.Spelling.{keyed_length_bytes, keyed_lengths, footer_bytes}
use Rattle.col_model.specs.U64List.{joined_lists}
use Rattle.col_model.specs.Version.{current_version}

-- how many columns were put, and for each its key with the length of its bytes, as spelled
pub record PutColumns : Type 0 where
  pub count : ℕ
  pub table : List ℕ

-- no column was put
abbrev pub no_columns : PutColumns
no_columns = record { count = 0; table = [] }

-- the columns, and one more of so many bytes
abbrev pub with_column : PutColumns → Key → ℕ → PutColumns
with_column columns key n =
    record { count = columns.count + 1; table = columns.table ++ keyed_length_bytes (key, n) }

-- the key table and the footer of a file of these columns
abbrev pub end_bytes : PutColumns → ℕ → List ℕ
end_bytes columns row_count =
    let table = vint_bytes columns.count ++ columns.table in
    table ++ footer_bytes (length table) row_count

-- A column was put: Ok added just its bytes to the sink, and its key and length to the columns. A
-- refusal leaves the columns.
pub record Puts (old new : PutColumns) (a b : SeenSink) (result : Result (Unit {0}) ColumnarError)
    (key : Key) (bytes : List ℕ) : Type 0 where
  pub written : Serializes a b result bytes
  pub listed : OnOk result (new ≡ with_column old key (length bytes))
  pub fits : OnOk result (length bytes < 2 ^ 64)
  pub kept : OnErr result (new ≡ old)

-- These columns were put under these keys since the sink was as it was at the start.
pub record HavePut (start now : SeenSink) (columns : PutColumns)
    (ps : List (Key × List ℕ)) : Type 0 where
  pub written : Serializes start now (Ok tt) (joined_lists (map (λ p. p.1) ps))
  pub table : columns.table ≡ flat_map keyed_length_bytes (keyed_lengths ps)
  pub count : columns.count ≡ length ps
  pub fit : AllByRecursion (λ p. length p.1 < 2 ^ 64) ps

-- Keys of one file: names are text without a zero byte, keys ascend, and at most one numerical key
-- has a given name.
pub record AreKeys (ks : List Key) : Type 0 where
  pub names : AllByRecursion (λ key. is_name key.name ≡ true) ks
  pub ascend : are_keys ks ≡ true

-- what the end of a file says, where these columns were put
abbrev pub keys_put : ℕ → List (Key × List ℕ) → FileKeys
keys_put row_count ps = record {
  row_count = row_count;
  version = current_version;
  entries = entries_from 0 (keyed_lengths ps);
}

-- a column as its bytes stand for it
abbrev pub part_put : ℕ → Key × List ℕ → PartColumn
part_put row_count p = record {
  name = p.0.name;
  column_type = p.0.column_type;
  content = column p.1 p.0.column_type current_version row_count;
}

-- A file has just these columns: its entries are their keys and places, and each stands for what
-- its bytes stand for.
pub record HasColumns (file : List ℕ) (row_count : ℕ) (ps : List (Key × List ℕ)) : Type 0 where
  pub entries : keys file ≡ Some (keys_put row_count ps)
  pub columns : parts_of file
      ≡ Some (record { row_count = row_count; columns = map (part_put row_count) ps })
