-- What the type of a joined column depends on. States docs/RULES.md, The numerical type.
use Rattle.std.specs.Prelude.{◌≡◌, ℤ, not, Bool, List, filter_map, if◌then◌else◌, Option, Some, None}
use Rattle.std.specs.List.{list_all, list_any}
use Rattle.col_model.specs.ColumnType.{ColumnType, same_type}
use Rattle.col_model.specs.ColumnType as types
use Rattle.col_model.specs.NumericalType.{accepts_i64, accepts_u64, typed_number}
use Rattle.col_model.specs.U64List.{joined_lists}
use Rattle.col_values.specs.Values.{passes}
use Rattle.col_dynamic.specs.Dynamic.{type_of, content_of}
use Rattle.col_dynamic.specs.declared.dynamic_column.DynamicColumn.{DynamicColumn}
use Rattle.col_merge_slot.specs.declared.shared_type.NumbersSeen.{NumbersSeen}

-- the numbers of a column with its type
abbrev pub numbers_with_type : DynamicColumn → List (ColumnType × ℤ)
numbers_with_type c = filter_map (typed_number (type_of c)) (joined_lists (content_of c).rows)

-- the column's type is i64
abbrev pub is_signed : DynamicColumn → Bool
is_signed c = same_type (type_of c) types.i64

-- some number of the column may not be of type u64
abbrev pub is_low : DynamicColumn → Bool
is_low c = not (list_all accepts_u64 (numbers_with_type c))

-- some number of the column may not be of type i64
abbrev pub is_high : DynamicColumn → Bool
is_high c = not (list_all accepts_i64 (numbers_with_type c))

-- whether some of the columns that are kept passes each test
pub record HaveSeen (kept : List (Option DynamicColumn)) (n : NumbersSeen) : Type 0 where
  pub some_signed : n.some_signed ≡ list_any (passes is_signed) kept
  pub some_low : n.some_low ≡ list_any (passes is_low) kept
  pub some_high : n.some_high ≡ list_any (passes is_high) kept

-- Where all numbers may be of type i64, i64 if some column has that type, else u64; else u64, where
-- all numbers may be of that type.
abbrev pub type_seen : NumbersSeen → Option ColumnType
type_seen n =
    if n.some_high then (if n.some_low then None else Some types.u64)
    else (if n.some_signed then Some types.i64 else Some types.u64)
