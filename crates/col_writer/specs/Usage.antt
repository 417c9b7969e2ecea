-- How much memory a writer's records take. States docs/RULES.md, Records of a writer.
use Rattle.std.specs.Prelude.{ℕ, ◌+◌, ◌-◌, ◌^◌, min, List, map, length, sum_by, String, string_bytes}
use Rattle.std.specs.declared.alloc.Global.{Global}
use Rattle.col_model.specs.ColumnType.{ColumnType}
use Rattle.col_model.specs.ColumnType as types
use Rattle.col_model.specs.Category.{Slot}
use Rattle.col_model.specs.Written.{Record, Entry, Recorded, texts_of}

-- how many bytes a value has as it is kept: a text is kept as an id
abbrev pub value_bytes : ColumnType → ℕ
value_bytes types.i64 = 8
value_bytes types.u64 = 8
value_bytes types.bytes = 4
value_bytes types.str = 4
value_bytes types.bool = 1
value_bytes types.ip = 16
value_bytes types.datetime = 8

-- a record: its document, and its value
abbrev pub record_bytes : Record → ℕ
record_bytes r = 4 + value_bytes r.recorded_type

-- records: themselves, and their distinct texts
unfoldable pub records_bytes : List Record → ℕ
records_bytes records =
    sum_by record_bytes records + sum_by length (texts_of (map (λ r. r.cell) records))

-- an entry: its name, and its records
abbrev pub entry_bytes : Slot × Entry → ℕ
entry_bytes (slot, e) = length slot.name + records_bytes e.records

-- as far as 64 bits count
abbrev pub up_to_64_bits : ℕ → ℕ
up_to_64_bits n = min n (2 ^ 64 - 1)

-- all names, records and distinct texts, as far as 64 bits count
abbrev pub mem_usage : Recorded → ℕ
mem_usage w = up_to_64_bits (sum_by entry_bytes w)

-- names, and what they are the names of
abbrev pub named_bytes : {X : Type 0} → (X → ℕ) → List (String Global × X) → ℕ
named_bytes bytes es = sum_by (λ p. length (string_bytes p.0) + bytes p.1) es
