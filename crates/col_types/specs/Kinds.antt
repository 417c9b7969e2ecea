-- The types of columns as the definitions have them.
use Rattle.std.specs.Prelude.{ℕ}
use Rattle.col_model.specs.ColumnType as types
use Rattle.col_types.specs.declared.column_type.ColumnType.{ColumnType}
use Rattle.col_types.specs.declared.column_type.ColumnType.TheVariants.{I64, U64, Bytes, Str, Bool, IpAddr, DateTime}
use Rattle.col_types.specs.declared.numerical_type.NumericalType.{NumericalType}
use Rattle.col_types.specs.declared.numerical_type.NumericalType.TheVariants as numerical

-- the type that a variant stands for
abbrev pub kind_of : ColumnType → types.ColumnType
kind_of I64 = types.i64
kind_of U64 = types.u64
kind_of Bytes = types.bytes
kind_of Str = types.str
kind_of Bool = types.bool
kind_of IpAddr = types.ip
kind_of DateTime = types.datetime

-- the code of a type
abbrev pub code_of : ColumnType → ℕ
code_of t = types.type_code (kind_of t)

-- the type that a numerical type is
abbrev pub numerical_kind_of : NumericalType → types.ColumnType
numerical_kind_of numerical.I64 = types.i64
numerical_kind_of numerical.U64 = types.u64
