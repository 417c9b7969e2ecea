-- The types that numbers of a column may have.
use Rattle.std.specs.Prelude.{pos, ◌-◌, ◌^◌, ◌&&◌, int_le, int_lt, Bool, false, Option, Some, None, if◌then◌else◌}
use Rattle.col_model.specs.ColumnType.{ColumnType, same_type}
use Rattle.col_model.specs.ColumnType as types
use Rattle.col_types.specs.Kinds.{numerical_kind_of}
use Rattle.col_types.specs.declared.numerical_value.NumericalValue.{NumericalValue}
use Rattle.col_types.specs.declared.numerical_value.NumericalValue.TheVariants.{I64, U64}
use Rattle.col_writer_columns.specs.declared.compatible_types.CompatibleNumericalTypes.{CompatibleNumericalTypes}
use Rattle.col_writer_columns.specs.declared.compatible_types.CompatibleNumericalTypes.TheVariants.{Dynamic, StaticType}

-- the type that is forced
abbrev pub forced_of : CompatibleNumericalTypes → Option ColumnType
forced_of (Dynamic i u) = None
forced_of (StaticType t) = Some (numerical_kind_of t)

-- the column may have this type
abbrev pub is_accepted : CompatibleNumericalTypes → ColumnType → Bool
is_accepted (Dynamic i u) types.i64 = i
is_accepted (Dynamic i u) types.u64 = u
is_accepted (Dynamic i u) types.bytes = false
is_accepted (Dynamic i u) types.str = false
is_accepted (Dynamic i u) types.bool = false
is_accepted (Dynamic i u) types.ip = false
is_accepted (Dynamic i u) types.datetime = false
is_accepted (StaticType s) t = same_type (numerical_kind_of s) t

-- one number more
abbrev pub accepted_with : CompatibleNumericalTypes → NumericalValue → CompatibleNumericalTypes
accepted_with (Dynamic i u) (I64 z) = Dynamic i (u && int_le (pos 0) z)
accepted_with (Dynamic i u) (U64 n) = Dynamic (i && int_lt (pos n) (pos (2 ^ 63 - 1))) u
accepted_with (StaticType t) v = StaticType t

-- the forced type, else i64 before u64
abbrev pub accepted_type : CompatibleNumericalTypes → Option ColumnType
accepted_type (Dynamic i u) = if i then Some types.i64 else if u then Some types.u64 else None
accepted_type (StaticType t) = Some (numerical_kind_of t)
