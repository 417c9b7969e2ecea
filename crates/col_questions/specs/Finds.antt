-- Lookups as the definitions have them.
use Rattle.std.specs.Prelude.{string_bytes}
use Rattle.col_model.specs.ColumnType.{ColumnType}
use Rattle.col_model.specs.ColumnType as types
use Rattle.col_model.specs.Table.{Cell, number, text}
use Rattle.col_program.specs.Script as script
use Rattle.col_types.specs.Cells.{unsigned_cell, bool_cell}
use Rattle.col_questions.specs.declared.lookup.Ends.{Ends}
use Rattle.col_questions.specs.declared.lookup.Ends.TheVariants as ends
use Rattle.col_questions.specs.declared.lookup.Find.{Find}

-- the type of the column
abbrev pub ends_type : Ends → ColumnType
ends_type (ends.Bool lo hi) = types.bool
ends_type (ends.I64 lo hi) = types.i64
ends_type (ends.U64 lo hi) = types.u64
ends_type (ends.IpAddr lo hi) = types.ip
ends_type (ends.DateTime lo hi) = types.datetime
ends_type (ends.Bytes lo hi) = types.bytes
ends_type (ends.Str lo hi) = types.str

-- the least cell that is found
abbrev pub low_of : Ends → Cell
low_of (ends.Bool lo hi) = bool_cell lo
low_of (ends.I64 lo hi) = number lo
low_of (ends.U64 lo hi) = unsigned_cell lo
low_of (ends.IpAddr lo hi) = unsigned_cell lo
low_of (ends.DateTime lo hi) = number lo
low_of (ends.Bytes lo hi) = text lo.items
low_of (ends.Str lo hi) = text (string_bytes lo)

-- the greatest cell that is found
abbrev pub high_of : Ends → Cell
high_of (ends.Bool lo hi) = bool_cell hi
high_of (ends.I64 lo hi) = number hi
high_of (ends.U64 lo hi) = unsigned_cell hi
high_of (ends.IpAddr lo hi) = unsigned_cell hi
high_of (ends.DateTime lo hi) = number hi
high_of (ends.Bytes lo hi) = text hi.items
high_of (ends.Str lo hi) = text (string_bytes hi)

-- the lookup
abbrev pub find_of : Find → script.Find
find_of f = record {
  name = string_bytes f.name;
  column_type = ends_type f.ends;
  lo = low_of f.ends;
  hi = high_of f.ends;
  from = f.from;
  to = f.to;
}
