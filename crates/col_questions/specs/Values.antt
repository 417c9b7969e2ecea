-- Values and ends as cells with their type.
use Rattle.std.specs.Prelude.{Option, Some, string_bytes}
use Rattle.serde_json.specs.Data.{Data}
use Rattle.col_common.specs.Reading.{◌>>=◌}
use Rattle.col_model.specs.ColumnType.{ColumnType}
use Rattle.col_model.specs.ColumnType as types
use Rattle.col_model.specs.Table.{Cell, number, text}
use Rattle.col_program.specs.Values.{as_cell}
use Rattle.col_types.specs.Cells.{unsigned_cell, bool_cell}
use Rattle.col_questions.specs.Finds.{ends_type, low_of, high_of}
use Rattle.col_questions.specs.declared.lookup.Ends.{Ends}
use Rattle.col_questions.specs.declared.value.TypedValue.{TypedValue}
use Rattle.col_questions.specs.declared.value.TypedValue.TheVariants as values

-- the type and the cell
abbrev pub typed_cell : TypedValue → ColumnType × Cell
typed_cell (values.I64 z) = (types.i64, number z)
typed_cell (values.U64 n) = (types.u64, unsigned_cell n)
typed_cell (values.Bytes bs) = (types.bytes, text bs.items)
typed_cell (values.Str s) = (types.str, text (string_bytes s))
typed_cell (values.Bool b) = (types.bool, bool_cell b)
typed_cell (values.IpAddr n) = (types.ip, unsigned_cell n)
typed_cell (values.DateTime z) = (types.datetime, number z)

-- a part as a cell of the type
abbrev pub typed_as : ColumnType → Data → Option (ColumnType × Cell)
typed_as t d = as_cell t d >>= λ cell. Some (t, cell)

-- the type and the ends
abbrev pub ends_of : Ends → ColumnType × Cell × Cell
ends_of e = (ends_type e, low_of e, high_of e)

-- two parts as ends of the type
abbrev pub ends_as : ColumnType → Data → Data → Option (ColumnType × Cell × Cell)
ends_as t lo hi = as_cell t lo >>= λ lo. as_cell t hi >>= λ hi. Some (t, lo, hi)
