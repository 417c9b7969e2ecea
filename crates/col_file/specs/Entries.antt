-- The entries that a reader keeps.
use Rattle.std.specs.Prelude.{List, map}
use Rattle.col_keys.specs.KeyTables.{key_seen}
use Rattle.col_model.specs.Keys.{Entry}
use Rattle.col_file.specs.declared.column_entry.ColumnEntry.{ColumnEntry}

-- an entry as the definitions have it
abbrev pub entry_of : ColumnEntry → Entry
entry_of e = record { key = key_seen e.key; start = e.start; «end» = e.«end» }

-- each of them
abbrev pub entries_seen : List ColumnEntry → List Entry
entries_seen es = map entry_of es
