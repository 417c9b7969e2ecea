-- The headings of the first record.
use Rattle.col_model.specs.Category.{Slot, slot_of}
use Rattle.col_model.specs.Keys.{Key}
use Rattle.col_types.specs.Kinds.{kind_of}
use Rattle.col_csv_import.specs.declared.headings.Heading.{Heading}

-- the key
abbrev pub heading_key : Heading → Key
heading_key h = record { name = h.name.now; column_type = kind_of h.column_type }

-- the slot
abbrev pub heading_slot : Heading → Slot
heading_slot h = slot_of h.name.now (kind_of h.column_type)
