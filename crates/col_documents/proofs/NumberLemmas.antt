-- Numerals: what their digits spell, and which types hold it.
use Rattle.std.proofs.Common.{◌≡◌, ◌≢◌, ◌*◌, ◌^◌, ◌<◌, ◌≤◌, ℕ, zero, suc, ℤ, pos, negsuc, neg_ℤ, ◌*ℤ◌, Bool, true, false, cond, List, [], ◌∷◌, ◌++◌, drop, length, replicate, get_or, slice_index, Result, Ok, Err, refl, sym, ap, ◌∙◌, arith, w64, inl, inr, ◌⊎◌}
use Rattle.std.specs.Prelude.{◌&&◌, nat_lt, ◌==◌, IsErr, OkIff, if◌then◌else◌, ◌-◌}
use Rattle.std.specs.Char.{is_ascii_digit}
use Rattle.std.specs.Str.Parse.{ParsesSigned, ParsesUnsigned, digits_value, signed_digits_value, starts_with_minus, without_leading_plus}
use Rattle.std.proofs.lemmas.Bool.{and_parts, cases_lt, lt-ltb, ltb-true, eqb-true}
use Rattle.std.proofs.lemmas.Bool.Decides.{nat_tests}
use Rattle.std.proofs.lemmas.Str.Parse.{IsDigitsTest, IsNumeralModel, numerals_by_value, tells_all_ascii_digits, parse_signed_minus, parse_signed_digits, parse_digits, without_leading_plus_none}
use Rattle.col_model.specs.ColumnType as types
use Rattle.col_model.specs.Limits.{is_of_type}
use Rattle.col_model.specs.Table.{number}
use Rattle.col_documents.specs.Numbers.{are_digits, is_whole, scaled_digits, typed_number, time_of_nanos, time_of_millis, nanos_a_milli, zero_digit}
use Rattle.col_documents.specs.declared.refusal.Reason.TheVariants.{Fraction, TooLarge}

-- ---- digits

tells : IsDigitsTest (λ s. are_digits s ≡ true)
tells = record { empty = refl; parts = tells_all_ascii_digits.parts; more = tells_all_ascii_digits.more }

own : IsNumeralModel (λ s. are_digits s ≡ true) (digits_value 10)
own = numerals_by_value (λ s. are_digits s ≡ true) tells

-- ---- numbers that no type holds

-- too high for both
high : (n : ℕ) → 2 ^ 64 ≤ n → typed_number (pos n) ≡ Err TooLarge
high n h =
    let not_i64 : is_of_type types.i64 (number (pos n)) ≡ false = grind (arith, nat_tests) in
    let not_u64 : is_of_type types.u64 (number (pos n)) ≡ false = grind (arith, nat_tests) in
    rw (not_i64, not_u64) refl

-- too low for both
low : (n : ℕ) → 2 ^ 63 < n → typed_number (neg_ℤ (pos n)) ≡ Err TooLarge
low zero h = absurd (omega arith)
low (suc n) h =
    let not_i64 : is_of_type types.i64 (number (negsuc n)) ≡ false = grind (arith, nat_tests) in
    rw not_i64 refl

-- ---- numerals that no type holds

-- what doesn't hold of a value that wasn't read
denied : {T E : Type 0} {P : Type 0} (x : T) (r : Result T E) → IsErr r → OkIff r P x → P → ⊥
denied x (Ok v) none h p = cc none
denied x (Err e) none h p = h p

-- the number with a minus or none
abbrev signed_by : List ℕ → Bool → ℤ
signed_by s b =
    let ds = cond b (drop 1 s) (without_leading_plus s) in
    cond b (neg_ℤ (pos (digits_value 10 ds))) (pos (digits_value 10 ds))

-- the digits behind a minus or none
abbrev digits_by : List ℕ → Bool → List ℕ
digits_by s b = drop (cond b 1 0) s

-- what a numeral that isn't an i64 is
pub data IsFar (s : List ℕ) : Type 0 where
  below : signed_digits_value 10 s ≡ neg_ℤ (pos (digits_value 10 (drop 1 s))) → 2 ^ 63 < digits_value 10 (drop 1 s) → IsFar s
  above : signed_digits_value 10 s ≡ pos (digits_value 10 s) → are_digits s ≡ true → 2 ^ 63 ≤ digits_value 10 s → IsFar s

module _ {E : Type 0} (s : List ℕ) (whole : is_whole s ≡ true) (r : Result ℤ E) (h : ParsesSigned w64 10 s r) (none : IsErr r) where
  parts : (b : Bool) → starts_with_minus s ≡ b → (0 < length (digits_by s b)) × (are_digits (digits_by s b) ≡ true)
  parts b is =
      let both = and_parts (nat_lt 0 (length (digits_by s b))) (are_digits (digits_by s b))
      (ap (λ b. nat_lt 0 (length (digits_by s b)) && are_digits (digits_by s b)) (sym is) ∙ whole) in
      (ltb-true 0 (length (digits_by s b)) both.0, both.1)

  pub far : IsFar s
  far = by (starts_with_minus s) refl
    where
      by : (b : Bool) → starts_with_minus s ≡ b → IsFar s
      by true is =
          let p = parts true is in
          let v : ℕ = digits_value 10 (drop 1 s) in
          below (ap (signed_by s) is) (beyond v (cases_lt (2 ^ 63) v)
          (λ le. denied _ r none (parse_signed_minus own w64 s r h (eqb-true (slice_index s 0) 45 is)) (p.1, p.0, le)))
        where
          beyond : (v : ℕ) → (2 ^ 63 < v) ⊎ (v ≤ 2 ^ 63) → (v ≤ 2 ^ 63 → ⊥) → 2 ^ 63 < v
          beyond v (inl lt) not = lt
          beyond v (inr le) not = absurd (not le)
      by false is =
          let p = parts false is in
          let v : ℕ = digits_value 10 s in
          let plain : without_leading_plus s ≡ s = without_leading_plus_none s (no_plus s p.1) in
          above (ap (signed_by s) is ∙ ap (λ ds. pos (digits_value 10 ds)) plain) p.1 (beyond v (cases_lt v (2 ^ 63))
          (λ lt. denied _ r none (parse_signed_digits own w64 s r h p.1) (p.0, lt)))
        where
          no_plus : (s : List ℕ) → are_digits s ≡ true → get_or s 0 0 ≢ 43
          no_plus [] d = λ e. omega arith
          no_plus (c ∷ cs) d = λ e. omega (arith, (tells.parts c cs d).0)

          beyond : (v : ℕ) → (v < 2 ^ 63) ⊎ (2 ^ 63 ≤ v) → (v < 2 ^ 63 → ⊥) → 2 ^ 63 ≤ v
          beyond v (inl lt) not = absurd (not lt)
          beyond v (inr le) not = le

-- neither i64 nor u64
pub far_of_both : {E F : Type 0} (s : List ℕ) (r : Result ℤ E) (q : Result ℕ F) → is_whole s ≡ true → ParsesSigned w64 10 s r → IsErr r
    → ParsesUnsigned 64 10 s q → IsErr q → typed_number (signed_digits_value 10 s) ≡ Err TooLarge
far_of_both s r q whole h none k none' = by (far s whole r h none)
  where
    by : IsFar s → typed_number (signed_digits_value 10 s) ≡ Err TooLarge
    by (below is over) = ap typed_number is ∙ low (digits_value 10 (drop 1 s)) over
    by (above is digits over) =
        ap typed_number is ∙ high (digits_value 10 s) (beyond (digits_value 10 s) (cases_lt (digits_value 10 s) (2 ^ 64))
        (λ lt. denied _ q none' (parse_digits own 64 s q k digits) (long s over, lt)))
      where
        long : (s : List ℕ) → 2 ^ 63 ≤ digits_value 10 s → 0 < length s
        long [] over = absurd (omega arith)
        long (c ∷ cs) over = omega arith

        beyond : (v : ℕ) → (v < 2 ^ 64) ⊎ (2 ^ 64 ≤ v) → (v < 2 ^ 64 → ⊥) → 2 ^ 64 ≤ v
        beyond v (inl lt) not = absurd (not lt)
        beyond v (inr le) not = le

-- ---- times that are too far

late : (n : ℕ) → 2 ^ 63 ≤ n → time_of_nanos (pos n *ℤ pos nanos_a_milli) ≡ Err TooLarge
late n h =
    let not_time : is_of_type types.datetime (number (pos (n * nanos_a_milli))) ≡ false = grind (arith, nat_tests) in
    rw not_time refl

below-all : (n : ℕ) → 2 ^ 63 < n → time_of_nanos (neg_ℤ (pos n)) ≡ Err TooLarge
below-all zero h = absurd (omega arith)
below-all (suc n) h =
    let not_time : is_of_type types.datetime (number (negsuc n)) ≡ false = grind (arith, nat_tests) in
    rw not_time refl

early : (n : ℕ) → 2 ^ 63 < n → time_of_nanos (neg_ℤ (pos n) *ℤ pos nanos_a_milli) ≡ Err TooLarge
early zero h = absurd (omega arith)
early (suc n) h = below-all (suc n * nanos_a_milli) (omega (arith, h))

pub far_of_time : {E : Type 0} (s : List ℕ) (r : Result ℤ E) → is_whole s ≡ true → ParsesSigned w64 10 s r → IsErr r
    → time_of_millis s ≡ Err TooLarge
far_of_time s r whole h none = ap (λ b. if b then time_of_nanos (signed_digits_value 10 s *ℤ pos nanos_a_milli) else Err Fraction) whole
    ∙ by (far s whole r h none)
  where
    by : IsFar s → time_of_nanos (signed_digits_value 10 s *ℤ pos nanos_a_milli) ≡ Err TooLarge
    by (below is over) = ap (λ z. time_of_nanos (z *ℤ pos nanos_a_milli)) is ∙ early (digits_value 10 (drop 1 s)) over
    by (above is digits over) = ap (λ z. time_of_nanos (z *ℤ pos nanos_a_milli)) is ∙ late (digits_value 10 s) over

-- ---- digits at a scale

digits-behind : (s t : List ℕ) → are_digits s ≡ true → are_digits t ≡ true → are_digits (s ++ t) ≡ true
digits-behind [] t d e = e
digits-behind (c ∷ cs) t d e =
    let both = and_parts (is_ascii_digit c) (are_digits cs) d in
    rw (both.0, digits-behind cs t both.1 e) refl

zeros : (n : ℕ) → are_digits (replicate n zero_digit) ≡ true
zeros zero = refl
zeros (suc n) = zeros n

-- whether digits stand behind a minus or none
abbrev holds_by : List ℕ → Bool → Bool
holds_by s b = nat_lt 0 (length (digits_by s b)) && are_digits (digits_by s b)

some-behind : (s t : List ℕ) → nat_lt 0 (length s) ≡ true → nat_lt 0 (length (s ++ t)) ≡ true
some-behind [] t h = cc h
some-behind (c ∷ cs) t h = lt-ltb 0 (length (c ∷ (cs ++ t))) (omega arith)

both : (a b : Bool) → a ≡ true → b ≡ true → (a && b) ≡ true
both a b one two = rw (one, two) refl

-- digits behind a numeral are one with it
whole-more : (s t : List ℕ) → is_whole s ≡ true → are_digits t ≡ true → is_whole (s ++ t) ≡ true
whole-more [] t w e = cc w
whole-more (c ∷ cs) t w e = by (c == 45) refl
  where
    by : (b : Bool) → (c == 45) ≡ b → is_whole (c ∷ (cs ++ t)) ≡ true
    by true is =
        let was = and_parts (nat_lt 0 (length cs)) (are_digits cs) (ap (holds_by (c ∷ cs)) (sym is) ∙ w) in
        ap (holds_by (c ∷ (cs ++ t))) is
        ∙ both (nat_lt 0 (length (cs ++ t))) (are_digits (cs ++ t)) (some-behind cs t was.0) (digits-behind cs t was.1 e)
    by false is =
        let was = and_parts (nat_lt 0 (length (c ∷ cs))) (are_digits (c ∷ cs)) (ap (holds_by (c ∷ cs)) (sym is) ∙ w) in
        ap (holds_by (c ∷ (cs ++ t))) is
        ∙ both (nat_lt 0 (length (c ∷ (cs ++ t)))) (are_digits (c ∷ (cs ++ t))) (some-behind (c ∷ cs) t was.0)
        (digits-behind (c ∷ cs) t was.1 e)

pub whole_scaled : (scale : ℕ) (whole fraction : List ℕ) → is_whole whole ≡ true → are_digits fraction ≡ true
    → is_whole (scaled_digits scale (whole, fraction)) ≡ true
whole_scaled scale whole fraction w f =
    whole-more (whole ++ fraction) (replicate (scale - length fraction) zero_digit) (whole-more whole fraction w f)
    (zeros (scale - length fraction))
