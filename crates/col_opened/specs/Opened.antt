-- Columns of a file that are open.
use Rattle.std.specs.Prelude.{◌≡◌, ℕ, Bool, true, List, map, length, string_bytes, is_some}
use Rattle.std.specs.List.{AllByRecursion}
use Rattle.std.specs.declared.alloc.Global.{Global}
use Rattle.std.specs.Prelude.{String}
use Rattle.col_model.specs.Keys.{Entry, FileKeys, are_keys}
use Rattle.col_model.specs.Sound.{key_of_column}
use Rattle.col_model.specs.Table.{Column, Table}
use Rattle.col_dynamic.specs.Dynamic.{type_of, content_of}
use Rattle.col_file.specs.Handles.{Handle}
use Rattle.col_opened.specs.Chosen.{chosen, places_from}
use Rattle.col_opened.specs.declared.open_columns.OpenColumn.{OpenColumn}
use Rattle.col_opened.specs.declared.open_columns.OpenColumns.{OpenColumns}

-- an open column, as tables have it
abbrev pub column_of : OpenColumn → Column
column_of c = record {
  name = string_bytes c.name;
  column_type = type_of c.column;
  content = content_of c.column;
}

-- so many rows stand in a column
abbrev pub HasRows : ℕ → Column → Type 0
HasRows n c = length c.content.rows ≡ n

-- the columns, in the order of their keys
abbrev pub open_in : OpenColumns → List OpenColumn
open_in c = c.columns.items

-- of each entry of the file, whether its column is open
abbrev pub flags_in : OpenColumns → List Bool
flags_in c = map is_some c.places.items

-- The open columns of a file with these keys are just those of a table.
pub record AreOpen (k : FileKeys) (t : Table) (c : OpenColumns) : Type 0 where
  pub row_count : t.row_count ≡ k.row_count
  pub columns : map column_of (open_in c) ≡ t.columns
  pub rows : AllByRecursion (HasRows t.row_count) t.columns
  -- no two entries have the same key, and the table has the keys of those that are open
  pub distinct : are_keys (map (λ e. e.key) k.entries) ≡ true
  pub keys : map key_of_column t.columns ≡ map (λ e. e.key) (chosen (flags_in c) k.entries)
  -- the place of each entry's column
  pub flags : length (flags_in c) ≡ length k.entries
  pub places : c.places.items ≡ places_from 0 (flags_in c)

-- a name with its handle, as a list of columns has it
abbrev pub Listed : Type 0
Listed = String Global × Handle

-- the name as bytes
abbrev pub seen_listed : Listed → List ℕ × Handle
seen_listed p = (string_bytes p.0, p.1)

-- the entry of a name and a handle
abbrev pub entry_listed : Listed → Entry
entry_listed p = record {
  key = record { name = string_bytes p.0; column_type = p.1.column_type };
  start = p.1.start;
  «end» = p.1.«end»;
}
