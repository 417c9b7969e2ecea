-- Texts of signed numbers as values.
use Rattle.std.proofs.Common.{◌≡◌, ◌<◌, ◌≤◌, ◌-◌, ◌^◌, ◌∙◌, ℕ, zero, suc, ℤ, pos, negsuc, nat_lt, Bool, true, false, List, [], ◌∷◌, length, take, drop, slice_index, decimal, Option, Some, None, refl, sym, ap, subst, arith}
use Rattle.std.specs.Prelude.{option_map}
use Rattle.std.specs.Fmt.{signed_decimal}
use Rattle.std.specs.Str.Parse.{signed_digits_value, starts_with_minus}
use Rattle.std.proofs.lemmas.Bool.{ltb-true, ltb-false, eq-eqb, eqb-true}
use Rattle.std.proofs.lemmas.Fmt.{decimal_injective}
use Rattle.std.proofs.lemmas.List.{take_all}
use Rattle.col_common.specs.Reading.{◌>>=◌, only_if}
use Rattle.col_model.specs.ColumnType as types
use Rattle.col_model.specs.Limits.{is_of_type}
use Rattle.col_model.specs.Table.{number}
use Rattle.col_csv.specs.CsvTable.{value_of_text}
use Rattle.col_csv_fields.specs.Fields.{IsNumberOf, negated}
use Rattle.col_csv_fields.proofs.ValueLemmas.{number_if, is-value, no-value, no-sign, number-read, of-half, of-other-half, below-half, above-half}

-- as an i64, where it is below 2 ^ 63
abbrev pub positive : ℕ → Option ℤ
positive n = only_if (nat_lt n (2 ^ 63)) (pos n)

-- no number below 0 has a text without a sign
no-negative : (s : List ℕ) (n : ℕ) → (slice_index s 0 ≡ 45 → ⊥) → signed_decimal (negsuc n) ≡ s → ⊥
no-negative s n plain same = plain (ap (λ s. slice_index s 0) (sym same))

-- a text without a sign, as a signed value
pub plain-value : (s : List ℕ) (o : Option ℕ) → (slice_index s 0 ≡ 45 → ⊥) → IsNumberOf s o
    → option_map number (o >>= positive) ≡ value_of_text types.i64 s
plain-value s None plain h = no-value types.i64 s (signed_digits_value 10 s) (never (signed_digits_value 10 s))
  where
    never : (z : ℤ) → is_of_type types.i64 (number z) ≡ true → signed_decimal z ≡ s → ⊥
    never (pos n) fits same = h n (omega (arith, below-half n fits)) same
    never (negsuc n) fits same = no-negative s n plain same
plain-value s (Some n) plain h = go (nat_lt n (2 ^ 63)) refl
  where
    never : (2 ^ 63 ≤ n) → (z : ℤ) → is_of_type types.i64 (number z) ≡ true → signed_decimal z ≡ s → ⊥
    never much (pos m) fits same =
        let below = below-half m fits in
        omega (arith, decimal_injective m n (omega arith) h.0 (same ∙ sym h.1))
    never much (negsuc m) fits same = no-negative s m plain same

    go : (b : Bool) → nat_lt n (2 ^ 63) ≡ b → option_map number (only_if b (pos n)) ≡ value_of_text types.i64 s
    go true e =
        let below = ltb-true n (2 ^ 63) e in
        is-value types.i64 s (pos n) (of-half n below) h.1
        ∙ ap (number_if types.i64 s) (sym (number-read (pos n) s (of-half n below) h.1))
    go false e = no-value types.i64 s (signed_digits_value 10 s) (never (ltb-false n (2 ^ 63) e) (signed_digits_value 10 s))

-- no text behind a minus is that of a number that isn't negative
no-positive : (ds : List ℕ) (n : ℕ) → n < 2 ^ 64 → decimal n ≡ 45 ∷ ds → ⊥
no-positive ds n small same = no-sign n 45 small (omega arith) (ap (λ s. slice_index s 0) same)

-- digits behind a minus, as a signed value
digits-value : (ds : List ℕ) (o : Option ℕ) → IsNumberOf ds o
    → option_map number (o >>= negated) ≡ value_of_text types.i64 (45 ∷ ds)
digits-value ds o h = go o h
  where
    others : ((n : ℕ) → n < 2 ^ 63 → decimal (suc n) ≡ ds → ⊥) → None ≡ value_of_text types.i64 (45 ∷ ds)
    others none = no-value types.i64 (45 ∷ ds) (signed_digits_value 10 (45 ∷ ds)) (never (signed_digits_value 10 (45 ∷ ds)))
      where
        never : (z : ℤ) → is_of_type types.i64 (number z) ≡ true → signed_decimal z ≡ 45 ∷ ds → ⊥
        never (pos n) fits same = no-positive ds n (omega (arith, below-half n fits)) same
        never (negsuc n) fits same = none n (above-half n fits) (ap (drop 1) same)

    go : (o : Option ℕ) → IsNumberOf ds o → option_map number (o >>= negated) ≡ value_of_text types.i64 (45 ∷ ds)
    go None h = others (λ n below same. h (suc n) (omega arith) same)
    go (Some zero) h = others (λ n below same. omega (arith, decimal_injective (suc n) 0 (omega arith) h.0 (same ∙ sym h.1)))
    go (Some (suc m)) h = by (nat_lt m (2 ^ 63)) refl
      where
        by : (b : Bool) → nat_lt m (2 ^ 63) ≡ b → option_map number (only_if b (negsuc m)) ≡ value_of_text types.i64 (45 ∷ ds)
        by true e =
            let below = ltb-true m (2 ^ 63) e in
            let same : signed_decimal (negsuc m) ≡ 45 ∷ ds = ap (λ s. 45 ∷ s) h.1 in
            is-value types.i64 (45 ∷ ds) (negsuc m) (of-other-half m below) same
            ∙ ap (number_if types.i64 (45 ∷ ds)) (sym (number-read (negsuc m) (45 ∷ ds) (of-other-half m below) same))
        by false e =
            let much = ltb-false m (2 ^ 63) e in
            others (λ n below same. omega (arith, decimal_injective (suc n) (suc m) (omega arith) h.0 (same ∙ sym h.1)))

-- a text behind a minus, as a signed value
pub minus-value : (s ds : List ℕ) (o : Option ℕ) → 0 < length s → slice_index s 0 ≡ 45 → ds ≡ drop 1 s → IsNumberOf ds o
    → option_map number (o >>= negated) ≡ value_of_text types.i64 s
minus-value [] ds o some first rest h = absurd (omega (arith, some))
minus-value (c ∷ cs) ds o some first rest h =
    digits-value cs o (subst (λ ds. IsNumberOf ds o) rest h)
    ∙ ap (λ c. value_of_text types.i64 (c ∷ cs)) (sym first)

-- a text that begins with a minus, as the code reads it
pub minus-read : (s : List ℕ) (o : Option ℕ) (r : Option ℤ) → starts_with_minus s ≡ true
    → IsNumberOf (take (length s - 1) (drop 1 s)) o → r ≡ (o >>= negated) → option_map number r ≡ value_of_text types.i64 s
minus-read [] o r minus h is = cc
minus-read (c ∷ cs) o r minus h is =
    let rest : take (length (c ∷ cs) - 1) cs ≡ cs = take_all (length (c ∷ cs) - 1) cs (omega arith) in
    ap (option_map number) is
    ∙ minus-value (c ∷ cs) (take (length (c ∷ cs) - 1) cs) o (omega arith) (eqb-true c 45 minus) rest h

-- another text, as the code reads it
pub plain-told : (s : List ℕ) (o : Option ℕ) (r : Option ℤ) → starts_with_minus s ≡ false
    → IsNumberOf s o → r ≡ (o >>= positive) → option_map number r ≡ value_of_text types.i64 s
plain-told s o r minus h is =
    let plain : slice_index s 0 ≡ 45 → ⊥ = λ e. let wrong : true ≡ false = sym (eq-eqb (slice_index s 0) 45 e) ∙ minus in cc in
    ap (option_map number) is ∙ plain-value s o plain h
