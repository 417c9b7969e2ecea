-- Numbers as words.
use Rattle.std.proofs.Common.{◌≡◌, ◌<◌, ◌^◌, ◌==◌, ℕ, nat_lt, nat_le, Bool, true, false, not, List, [], ◌∷◌, length, slice_index, Some, None, Result, Ok, Err, refl, sym, ap, ◌∙◌}
use Rattle.std.specs.Prelude.{◌&&◌, ◌||◌, OkIff}
use Rattle.std.specs.List.{list_all}
use Rattle.std.specs.Result.{result_ok}
use Rattle.std.specs.Char.{is_ascii_digit}
use Rattle.std.specs.Str.{all_ascii_digits}
use Rattle.std.specs.Str.Parse.{digits_value, ParsesUnsigned}
use Rattle.std.proofs.lemmas.Bool.{lt-ltb, ltb-true}
use Rattle.std.proofs.lemmas.Str.Parse.{numerals_by_value, tells_all_ascii_digits, parse_digits}
use Rattle.col_common.specs.Reading.{only_if}
use Rattle.col_program.specs.Outcome.{number_word}

digits-all : (s : List ℕ) → list_all is_ascii_digit s ≡ all_ascii_digits s
digits-all [] = refl
digits-all (c ∷ cs) = ap (λ b. is_ascii_digit c && b) (digits-all cs)

-- a number where all tests hold
tested : {A : Type 0} (d n z f : Bool) (v : A) → d ≡ true → n ≡ true → z ≡ true → f ≡ true → only_if (d && n && z && f) v ≡ Some v
tested d n z f v one two three four = rw (one, two, three, four) refl

-- none where one doesn't
untested : {A : Type 0} (d n z f : Bool) (v : A) → (d ≡ true → n ≡ true → z ≡ true → f ≡ true → ⊥) → only_if (d && n && z && f) v ≡ None
untested true true true true v h = absurd (h refl refl refl refl)
untested true true true false v h = refl
untested true true false f v h = refl
untested true false z f v h = refl
untested false n z f v h = refl

-- another byte than a digit
pub no-digits : (s : List ℕ) (r : Bool) → r ≡ list_all is_ascii_digit s → r ≡ false → number_word s ≡ None
no-digits s r is none =
    untested (all_ascii_digits s) (nat_lt 0 (length s)) (nat_le (length s) 1 || not (slice_index s 0 == 48))
    (nat_lt (digits_value 10 s) (2 ^ 64)) (digits_value 10 s)
    (λ d n z f. let same : true ≡ false = sym d ∙ sym (digits-all s) ∙ sym is ∙ none in cc)

-- a zero before other digits
pub zero-first : (s : List ℕ) (r : Bool) → r ≡ not (nat_le (length s) 1 || not (slice_index s 0 == 48)) → r ≡ true → number_word s ≡ None
zero-first s r is zero =
    untested (all_ascii_digits s) (nat_lt 0 (length s)) (nat_le (length s) 1 || not (slice_index s 0 == 48))
    (nat_lt (digits_value 10 s) (2 ^ 64)) (digits_value 10 s)
    (λ d n z f. let same : false ≡ true = ap not (sym z) ∙ sym is ∙ zero in cc)

from-not : (b : Bool) → not b ≡ false → b ≡ true
from-not true h = refl
from-not false h = cc

-- digits without one, as they are read
pub digits-read : {E : Type 0} (s : List ℕ) (all zero : Bool) (r : Result ℕ E) → all ≡ list_all is_ascii_digit s
    → all ≡ true → zero ≡ not (nat_le (length s) 1 || not (slice_index s 0 == 48)) → zero ≡ false
    → ParsesUnsigned 64 10 s r → result_ok r ≡ number_word s
digits-read {E = E} s all zero r all-is digits zero-is first parses =
    let d : all_ascii_digits s ≡ true = sym (digits-all s) ∙ sym all-is ∙ digits in
    let z = from-not (nat_le (length s) 1 || not (slice_index s 0 == 48)) (sym zero-is ∙ first) in
    by r d z (parse_digits (numerals_by_value (λ ds. all_ascii_digits ds ≡ true) tells_all_ascii_digits) 64 s r parses d)
  where
    by : (r : Result ℕ E) → all_ascii_digits s ≡ true → (nat_le (length s) 1 || not (slice_index s 0 == 48)) ≡ true
        → OkIff r ((0 < length s) × (digits_value 10 s < 2 ^ 64)) (digits_value 10 s) → result_ok r ≡ number_word s
    by (Ok v) d z h =
        ap Some h.1 ∙ sym (tested (all_ascii_digits s) (nat_lt 0 (length s))
        (nat_le (length s) 1 || not (slice_index s 0 == 48)) (nat_lt (digits_value 10 s) (2 ^ 64))
        (digits_value 10 s) d (lt-ltb 0 (length s) h.0.0) z (lt-ltb (digits_value 10 s) (2 ^ 64) h.0.1))
    by (Err e) d z h =
        sym (untested (all_ascii_digits s) (nat_lt 0 (length s))
        (nat_le (length s) 1 || not (slice_index s 0 == 48)) (nat_lt (digits_value 10 s) (2 ^ 64))
        (digits_value 10 s) (λ d n z f. h (ltb-true 0 (length s) n, ltb-true (digits_value 10 s) (2 ^ 64) f)))
