-- The slots of readers and of required columns. States docs/RULES.md, Merged tables.
use Rattle.std.specs.Prelude.{ℕ, List, ◌++◌, map, String, string_bytes}
use Rattle.std.specs.declared.alloc.Global.{Global}
use Rattle.col_model.specs.Category.{Slot, slot_of, slot_cmp}
use Rattle.col_model.specs.Keys.{Entry, FileKeys}
use Rattle.col_model.specs.Merge.{Required, required_slot}
use Rattle.col_model.specs.Sorted.{distinct_items}
use Rattle.col_model.specs.U64List.{joined_lists}
use Rattle.col_types.specs.Kinds.{kind_of}
use Rattle.col_types.specs.declared.column_type.ColumnType.{ColumnType}
use Rattle.col_file.specs.Handles.{Handle}
use Rattle.col_file.specs.Readers.{SeenReader}

-- required columns by the definitions
abbrev pub required_of : List (String Global × ColumnType) → List Required
required_of items = map (λ p. record { name = string_bytes p.0; column_type = kind_of p.1 }) items

-- the slot of an entry
abbrev pub entry_slot : Entry → Slot
entry_slot e = slot_of e.key.name e.key.column_type

-- the slots of a file's columns
abbrev pub file_slots : FileKeys → List Slot
file_slots k = map entry_slot k.entries

-- what the ends of the files say, and the row counts among it
abbrev pub keys_read : List SeenReader → List FileKeys
keys_read rs = map (λ r. r.keys) rs

abbrev pub counts_read : List SeenReader → List ℕ
counts_read rs = map (λ r. r.keys.row_count) rs

-- the slots of required columns and of files, in order
abbrev pub slots_by_keys : List FileKeys → List Required → List Slot
slots_by_keys ks required =
    distinct_items slot_cmp (map required_slot required ++ joined_lists (map file_slots ks))

-- the slot of a name and a handle
abbrev pub listed_slot : List ℕ × Handle → Slot
listed_slot p = slot_of p.0 p.1.column_type
