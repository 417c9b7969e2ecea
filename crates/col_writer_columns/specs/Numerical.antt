-- The records of a column of numbers.
use Rattle.std.specs.Prelude.{◌≡◌, ℕ, ℤ, true, false, List, map, length, Option, MatchOption, ⊤}
use Rattle.std.specs.List.{list_all, zip}
use Rattle.col_model.specs.ColumnType.{ColumnType, is_numerical}
use Rattle.col_model.specs.ColumnType as types
use Rattle.col_model.specs.Table.{number}
use Rattle.col_model.specs.Written.{Record, Entry}
use Rattle.col_model.specs.Recording.{accept_type}
use Rattle.col_types.specs.Kinds.{numerical_kind_of}
use Rattle.col_types.specs.declared.numerical_type.NumericalType.TheVariants as numerical
use Rattle.col_writer_columns.specs.Values.{stored_number}
use Rattle.col_writer_columns.specs.Compatible.{forced_of}
use Rattle.col_writer_columns.specs.declared.compatible_types.CompatibleNumericalTypes.{CompatibleNumericalTypes}
use Rattle.col_writer_columns.specs.declared.compatible_types.CompatibleNumericalTypes.TheVariants.{Dynamic, StaticType}

-- the record of a number with its type, document and code
abbrev pub numerical_record : ColumnType × (ℕ × ℕ) → Record
numerical_record (t, p) = record {
  doc = p.0;
  recorded_type = t;
  cell = number (stored_number t p.1);
}

-- the records of numbers
unfoldable pub numerical_records : List ColumnType → List (ℕ × ℕ) → List Record
numerical_records ts ps = map numerical_record (zip ts ps)

-- the types that hold the records are told
unfoldable pub IsSummary : CompatibleNumericalTypes → List Record → Type 0
IsSummary (Dynamic i u) rs = (i ≡ accept_type rs types.i64) × (u ≡ accept_type rs types.u64)
IsSummary (StaticType t) rs = accept_type rs (numerical_kind_of t) ≡ true

-- the entry of a column of numbers
abbrev pub numerical_entry : CompatibleNumericalTypes → List ColumnType → List (ℕ × ℕ) → Option ℤ
    → Entry
numerical_entry a ts ps start = record {
  records = numerical_records ts ps;
  forced = forced_of a;
  sorts = false;
  tie_start = start;
}

-- each number has its type, the types that hold them are told, and a tie start forces i64
pub record HaveNumberTypes (a : CompatibleNumericalTypes) (ts : List ColumnType) (ps : List (ℕ × ℕ))
    (start : Option ℤ) : Type 0 where
  pub many : length ts ≡ length ps
  pub summary : IsSummary a (numerical_records ts ps)
  pub tied : MatchOption start ⊤ (λ _. a ≡ StaticType numerical.I64)

-- documents with codes of which these are the records, by some types
pub record AreCodes (records : List Record) (ps : List (ℕ × ℕ)) : Type 0 where
  pub kinds : List ColumnType
  pub many : length kinds ≡ length ps
  pub numerical : list_all is_numerical kinds ≡ true
  pub are : records ≡ numerical_records kinds ps
