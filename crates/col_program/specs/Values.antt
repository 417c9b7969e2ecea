-- What the parts of a script's lines are: names, types, numbers and values. States docs/RULES.md,
-- Scripts.
use Rattle.std.specs.Prelude.{ℕ, pos, ◌^◌, ◌==◌, nat_lt, List, [], ◌∷◌, find, length, bytes_eq, if◌then◌else◌, Option, Some}
use Rattle.std.specs.Int.Digits.{number_from_digits}
use Rattle.std.specs.Result.{result_ok}
use Rattle.hex.specs.Hex.{decode_of}
use Rattle.serde_json.specs.Data.{Data, Items, no_items, item}
use Rattle.serde_json.specs.Find.{as_number, as_str, as_bool, as_u64, as_i64, as_array}
use Rattle.col_common.specs.Reading.{◌>>=◌, only_if}
use Rattle.col_model.specs.ColumnType.{ColumnType, type_name}
use Rattle.col_model.specs.ColumnType as types
use Rattle.col_model.specs.Table.{Cell}
use Rattle.col_model.specs.Table as cells

-- the items of an array
abbrev pub items_list : Items → List Data
items_list no_items = []
items_list (item d ds) = d ∷ items_list ds

-- the items, where it is an array
abbrev pub as_list : Data → Option (List Data)
as_list d = as_array d >>= λ ds. Some (items_list ds)

-- a whole number below 2 ^ 32
abbrev pub as_u32 : Data → Option ℕ
as_u32 d = do
  n ← as_number d >>= as_u64
  only_if (nat_lt n (2 ^ 32)) n

-- the types, by their codes
abbrev pub all_types : List ColumnType
all_types = types.i64 ∷ types.u64 ∷ types.bytes ∷ types.str ∷ types.bool ∷ types.ip
    ∷ types.datetime ∷ []

-- the type of this name
abbrev pub type_named : List ℕ → Option ColumnType
type_named name = find (λ t. bytes_eq (type_name t) name) all_types

-- the type that a text names
abbrev pub as_type : Data → Option ColumnType
as_type d = as_str d >>= type_named

-- the bytes of a text of hexadecimal digits
abbrev pub hex_bytes : Data → Option (List ℕ)
hex_bytes d = as_str d >>= λ s. result_ok (decode_of s)

-- A value of the type: a whole number, true or false, a text, hexadecimal digits (32 of them for
-- ip).
abbrev pub as_cell : ColumnType → Data → Option Cell
as_cell types.i64 d = as_number d >>= as_i64 >>= λ z. Some (cells.number z)
as_cell types.datetime d = as_number d >>= as_i64 >>= λ z. Some (cells.number z)
as_cell types.u64 d = as_number d >>= as_u64 >>= λ n. Some (cells.number (pos n))
as_cell types.bool d = as_bool d >>= λ b. Some (cells.number (pos (if b then 1 else 0)))
as_cell types.str d = as_str d >>= λ s. Some (cells.text s)
as_cell types.bytes d = hex_bytes d >>= λ s. Some (cells.text s)
as_cell types.ip d = hex_bytes d >>= λ s.
    only_if (length s == 16) (cells.number (pos (number_from_digits 256 s)))
