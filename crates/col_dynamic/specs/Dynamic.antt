-- Columns of any type.
use Rattle.std.specs.Prelude.{ℕ, ℤ, Option, Some, None, ◌^◌, ◌&&◌, pos, negsuc, ◌-◌, int_le, int_lt, Bool, false, [], length}
use Rattle.std.specs.List.{list_all}
use Rattle.col_model.specs.ColumnType.{ColumnType, is_numerical}
use Rattle.col_model.specs.ColumnType as types
use Rattle.col_model.specs.Index.{Shape}
use Rattle.col_model.specs.Table.{Cell, number, text, Content}
use Rattle.col_types.specs.Cells.{unsigned_cell, bool_cell}
use Rattle.col_text.specs.NumValues.{num_values_of}
use Rattle.col_text.specs.NumValuesType.{NumValues}
use Rattle.col_text.specs.Columns.{Seen, content_seen}
use Rattle.col_text.specs.IpValues.{ip_values_of}
use Rattle.col_text.specs.IpValuesType.{IpValues}
use Rattle.col_text.specs.Texts.{Texts, texts_content}
use Rattle.col_dynamic.specs.declared.dynamic_column.DynamicColumn.{DynamicColumn}
use Rattle.col_dynamic.specs.declared.dynamic_column.DynamicColumn.TheVariants as columns

-- the type of a column
abbrev pub type_of : DynamicColumn → ColumnType
type_of (columns.Bool c) = types.bool
type_of (columns.I64 c) = types.i64
type_of (columns.U64 c) = types.u64
type_of (columns.IpAddr c) = types.ip
type_of (columns.DateTime c) = types.datetime
type_of (columns.Bytes c) = types.bytes
type_of (columns.Str c) = types.str

-- what stands in it
abbrev pub content_of : DynamicColumn → Content
content_of (columns.Bool c) = content_seen [] bool_cell c.shape (num_values_of c.values)
content_of (columns.I64 c) = content_seen [] number c.shape (num_values_of c.values)
content_of (columns.U64 c) = content_seen [] unsigned_cell c.shape (num_values_of c.values)
content_of (columns.IpAddr c) = content_seen [] unsigned_cell c.shape (ip_values_of c.values)
content_of (columns.DateTime c) = content_seen [] number c.shape (num_values_of c.values)
content_of (columns.Bytes c) = texts_content c
content_of (columns.Str c) = texts_content c

-- the shape of its index
abbrev pub dynamic_shape : DynamicColumn → Shape
dynamic_shape (columns.Bool c) = c.shape
dynamic_shape (columns.I64 c) = c.shape
dynamic_shape (columns.U64 c) = c.shape
dynamic_shape (columns.IpAddr c) = c.shape
dynamic_shape (columns.DateTime c) = c.shape
dynamic_shape (columns.Bytes c) = c.ords.shape
dynamic_shape (columns.Str c) = c.ords.shape

-- how many values it has
abbrev pub value_count : DynamicColumn → ℕ
value_count (columns.Bool c) = length (num_values_of c.values)
value_count (columns.I64 c) = length (num_values_of c.values)
value_count (columns.U64 c) = length (num_values_of c.values)
value_count (columns.IpAddr c) = length (ip_values_of c.values)
value_count (columns.DateTime c) = length (num_values_of c.values)
value_count (columns.Bytes c) = length (num_values_of c.ords.values)
value_count (columns.Str c) = length (num_values_of c.ords.values)

-- the cell is a number of this numerical type
abbrev pub is_of : ColumnType → Cell → Bool
is_of types.i64 (number z) = int_le (negsuc (2 ^ 63 - 1)) z && int_lt z (pos (2 ^ 63))
is_of types.u64 (number z) = int_le (pos 0) z && int_lt z (pos (2 ^ 64))
is_of types.bytes (number z) = false
is_of types.str (number z) = false
is_of types.bool (number z) = false
is_of types.ip (number z) = false
is_of types.datetime (number z) = false
is_of t (text s) = false

-- a column is numerical, and each of its cells is a number of this type
abbrev pub fits_type : ColumnType → ColumnType → Content → Bool
fits_type target own content = is_numerical own && list_all (list_all (is_of target)) content.rows

-- the column, where it is of a type
abbrev pub as_bool : DynamicColumn → Option (Seen (NumValues Bool))
as_bool (columns.Bool c) = Some c
as_bool (columns.I64 c) = None
as_bool (columns.U64 c) = None
as_bool (columns.IpAddr c) = None
as_bool (columns.DateTime c) = None
as_bool (columns.Bytes c) = None
as_bool (columns.Str c) = None

abbrev pub as_i64 : DynamicColumn → Option (Seen (NumValues ℤ))
as_i64 (columns.Bool c) = None
as_i64 (columns.I64 c) = Some c
as_i64 (columns.U64 c) = None
as_i64 (columns.IpAddr c) = None
as_i64 (columns.DateTime c) = None
as_i64 (columns.Bytes c) = None
as_i64 (columns.Str c) = None

abbrev pub as_u64 : DynamicColumn → Option (Seen (NumValues ℕ))
as_u64 (columns.Bool c) = None
as_u64 (columns.I64 c) = None
as_u64 (columns.U64 c) = Some c
as_u64 (columns.IpAddr c) = None
as_u64 (columns.DateTime c) = None
as_u64 (columns.Bytes c) = None
as_u64 (columns.Str c) = None

abbrev pub as_ip_addr : DynamicColumn → Option (Seen IpValues)
as_ip_addr (columns.Bool c) = None
as_ip_addr (columns.I64 c) = None
as_ip_addr (columns.U64 c) = None
as_ip_addr (columns.IpAddr c) = Some c
as_ip_addr (columns.DateTime c) = None
as_ip_addr (columns.Bytes c) = None
as_ip_addr (columns.Str c) = None

abbrev pub as_datetime : DynamicColumn → Option (Seen (NumValues ℤ))
as_datetime (columns.Bool c) = None
as_datetime (columns.I64 c) = None
as_datetime (columns.U64 c) = None
as_datetime (columns.IpAddr c) = None
as_datetime (columns.DateTime c) = Some c
as_datetime (columns.Bytes c) = None
as_datetime (columns.Str c) = None

abbrev pub as_bytes : DynamicColumn → Option (Texts)
as_bytes (columns.Bool c) = None
as_bytes (columns.I64 c) = None
as_bytes (columns.U64 c) = None
as_bytes (columns.IpAddr c) = None
as_bytes (columns.DateTime c) = None
as_bytes (columns.Bytes c) = Some c
as_bytes (columns.Str c) = None

abbrev pub as_str : DynamicColumn → Option (Texts)
as_str (columns.Bool c) = None
as_str (columns.I64 c) = None
as_str (columns.U64 c) = None
as_str (columns.IpAddr c) = None
as_str (columns.DateTime c) = None
as_str (columns.Bytes c) = None
as_str (columns.Str c) = Some c
