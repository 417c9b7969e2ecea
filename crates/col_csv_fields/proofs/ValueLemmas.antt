-- Texts of numbers as values.
use Rattle.std.proofs.Common.{◌≡◌, ◌<◌, ◌^◌, ◌∙◌, ℕ, suc, ℤ, pos, negsuc, neg_ℤ, Bool, true, false, List, slice_index, bytes_eq, decimal, Option, Some, None, refl, sym, ap, arith}
use Rattle.std.specs.Prelude.{◌&&◌, option_map}
use Rattle.std.specs.Fmt.{signed_decimal}
use Rattle.std.specs.Str.Parse.{signed_digits_value}
use Rattle.std.proofs.lemmas.Bool.{and_parts, lt-ltb, ltb-true}
use Rattle.std.proofs.lemmas.Bool.Decides.{nat_tests}
use Rattle.std.proofs.lemmas.Fmt.{decimal_is_IsNumeral}
use Rattle.std.proofs.lemmas.Slice.Eq.{bytes_eq-Decides}
use Rattle.std.proofs.lemmas.Str.Parse.{digit_at}
use Rattle.col_common.specs.Reading.{only_if}
use Rattle.col_model.specs.ColumnType.{ColumnType}
use Rattle.col_model.specs.ColumnType as types
use Rattle.col_model.specs.Limits.{is_of_type}
use Rattle.col_model.specs.Table.{Cell, number}
use Rattle.col_types.specs.Cells.{unsigned_cell}
use Rattle.col_csv.specs.CsvTable.{value_of_text}
use Rattle.col_csv.proofs.ValueLemmas.{unsigned-again}
use Rattle.col_csv_fields.specs.Fields.{IsNumberOf}

-- which numbers an i64 may be
pub of-half : (n : ℕ) → n < 2 ^ 63 → is_of_type types.i64 (number (pos n)) ≡ true
of-half n below = lt-ltb n (2 ^ 63) below

pub of-other-half : (n : ℕ) → n < 2 ^ 63 → is_of_type types.i64 (number (negsuc n)) ≡ true
of-other-half n below = grind (arith, nat_tests)

pub below-half : (n : ℕ) → is_of_type types.i64 (number (pos n)) ≡ true → n < 2 ^ 63
below-half n fits = ltb-true n (2 ^ 63) fits

pub above-half : (n : ℕ) → is_of_type types.i64 (number (negsuc n)) ≡ true → n < 2 ^ 63
above-half n fits = grind (arith, nat_tests)

-- a number as the value of a text, where it is of the type and this is its text
abbrev pub number_if : ColumnType → List ℕ → ℤ → Option Cell
number_if t s z = only_if (is_of_type t (number z) && bytes_eq (signed_decimal z) s) (number z)

-- it is
pub is-value : (t : ColumnType) (s : List ℕ) (z : ℤ) → is_of_type t (number z) ≡ true → signed_decimal z ≡ s
    → Some (number z) ≡ number_if t s z
is-value t s z fits same = rw (fits, (bytes_eq-Decides (signed_decimal z) s).1 same) refl

-- it isn't
pub no-value : (t : ColumnType) (s : List ℕ) (z : ℤ) → (is_of_type t (number z) ≡ true → signed_decimal z ≡ s → ⊥)
    → None ≡ number_if t s z
no-value t s z never = go (is_of_type t (number z) && bytes_eq (signed_decimal z) s) refl
  where
    go : (b : Bool) → (is_of_type t (number z) && bytes_eq (signed_decimal z) s) ≡ b → None ≡ only_if b (number z)
    go false e = refl
    go true e =
        let both = and_parts (is_of_type t (number z)) (bytes_eq (signed_decimal z) s) e in
        absurd (never both.0 ((bytes_eq-Decides (signed_decimal z) s).0 both.1))

-- no sign stands before digits
pub no-sign : (n c : ℕ) → n < 2 ^ 64 → c < 48 → slice_index (decimal n) 0 ≡ c → ⊥
no-sign n c small below is =
    let k = decimal_is_IsNumeral n small in
    omega (arith, digit_at (decimal n) 0 k.0.1 k.0.0)

-- the number of its own text
pub number-read : (z : ℤ) (s : List ℕ) → is_of_type types.i64 (number z) ≡ true → signed_decimal z ≡ s → signed_digits_value 10 s ≡ z
number-read (pos n) s fits same =
    ap (signed_digits_value 10) (sym same) ∙ unsigned-again n (omega (arith, below-half n fits))
number-read (negsuc n) s fits same =
    ap (signed_digits_value 10) (sym same)
    ∙ ap (λ m. neg_ℤ (pos m)) (decimal_is_IsNumeral (suc n) (omega (arith, above-half n fits))).1

-- a text of a number that isn't negative, as an unsigned value
pub unsigned-value : (s : List ℕ) (o : Option ℕ) → IsNumberOf s o → option_map unsigned_cell o ≡ value_of_text types.u64 s
unsigned-value s (Some n) h =
    is-value types.u64 s (pos n) (grind (arith, nat_tests)) h.1
    ∙ ap (number_if types.u64 s) (sym (ap (signed_digits_value 10) (sym h.1) ∙ unsigned-again n h.0))
unsigned-value s None h = no-value types.u64 s (signed_digits_value 10 s) (never (signed_digits_value 10 s))
  where
    never : (z : ℤ) → is_of_type types.u64 (number z) ≡ true → signed_decimal z ≡ s → ⊥
    never (pos n) fits same = h n (grind (arith, nat_tests)) same
    never (negsuc n) fits same = cc fits
