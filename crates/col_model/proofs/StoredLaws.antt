-- The types whose columns store numbers.
use Rattle.std.proofs.Common.{◌≡◌, ℕ, ◌<◌, ◌^◌, true, refl, ap, sym, arith}
use Rattle.std.proofs.lemmas.Bool.Decides.{nat_tests}
use Rattle.col_model.specs.ColumnType as types
use Rattle.col_model.specs.Column.{signed_of}
use Rattle.col_model.specs.Images.{is_image_of_bool}
use Rattle.col_model.specs.U64List.{values64}
use Rattle.col_model.specs.AddressList.{values128}
use Rattle.col_model.specs.Table.{number}
use Rattle.col_model.specs.Codes.{bool_value}
use Rattle.col_model.proofs.CodeLaws.{bool_laws}
use Rattle.col_model.specs.Cells.{unsigned_cell, bool_cell}
use Rattle.col_model.specs.Stored.{IsStoredAs}

-- u64, each number itself
pub unsigned_stored : IsStoredAs values64 types.u64 unsigned_cell (λ n. n) (λ _. true)
unsigned_stored = record {
  without_terms = refl;
  numbers = λ _. refl;
  stored = λ _. refl;
  cells = λ _ _. refl;
}

-- i64, up by 2 ^ 63
pub signed_stored : IsStoredAs values64 types.i64 number signed_of (λ _. true)
signed_stored = record {
  without_terms = refl;
  numbers = λ _. refl;
  stored = λ _. refl;
  cells = λ _ _. refl;
}

-- points in time, as i64
pub times_stored : IsStoredAs values64 types.datetime number signed_of (λ _. true)
times_stored = record {
  without_terms = refl;
  numbers = λ _. refl;
  stored = λ _. refl;
  cells = λ _ _. refl;
}

below : (n : ℕ) → is_image_of_bool n ≡ true → n < 2 ^ 64
below n h = grind (arith, nat_tests)

-- bool, 0 or 1
pub bool_stored : IsStoredAs values64 types.bool bool_cell bool_value is_image_of_bool
bool_stored = record {
  without_terms = refl;
  numbers = λ _. refl;
  stored = λ _. refl;
  cells = λ n h. sym (ap unsigned_cell (bool_laws.again n (below n h) h));
}

-- addresses, each number itself
pub addresses_stored : IsStoredAs values128 types.ip unsigned_cell (λ n. n) (λ _. true)
addresses_stored = record {
  without_terms = refl;
  numbers = λ _. refl;
  stored = λ _. refl;
  cells = λ _ _. refl;
}
