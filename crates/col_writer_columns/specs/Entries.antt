-- What each call makes of the entry of its slot.
use Rattle.std.specs.Prelude.{ℕ, ◌-◌, ◌^◌, nat_le, ℤ, Bool, [], ◌∷◌, ◌++◌, length, Some, Result, Ok}
use Rattle.col_model.specs.ColumnType.{ColumnType}
use Rattle.col_model.specs.ColumnType as types
use Rattle.col_model.specs.Table.{Cell}
use Rattle.col_model.specs.Written.{Entry}
use Rattle.col_model.specs.Recording.{forces_other, is_late, denies}
use Rattle.col_model.specs.Refusal.{Refusal, ◌>>=◌, refuse_if, forced_type, doc_order, too_large}

-- a record
unfoldable pub recorded_entry : Entry → ℕ → ColumnType → Cell → Result Entry Refusal
recorded_entry e d t cell = do
  _ ← refuse_if (forces_other e.forced t) forced_type
  _ ← refuse_if (is_late e.records d) doc_order
  _ ← refuse_if (nat_le (2 ^ 32 - 1) (length e.records)) too_large
  Ok (record e { records = e.records ++ record { doc = d; recorded_type = t; cell = cell } ∷ [] })

-- a type with its sort flag
unfoldable pub typed_entry : Entry → ColumnType → Bool → Result Entry Refusal
typed_entry e t sorts = do
  _ ← refuse_if (denies e t) forced_type
  Ok (record { records = e.records; forced = Some t; sorts = sorts; tie_start = e.tie_start })

-- a tie start
unfoldable pub tied_entry : Entry → ℤ → Result Entry Refusal
tied_entry e start = do
  _ ← refuse_if (denies e types.i64) forced_type
  Ok (record {
    records = e.records;
    forced = Some types.i64;
    sorts = e.sorts;
    tie_start = Some start;
  })
