-- Texts of numbers in decimal, read from the left.
use Rattle.std.proofs.Common.{◌≡◌, ◌<◌, ◌≤◌, ◌+◌, ◌*◌, ◌-◌, ◌^◌, ◌==◌, ◌∙◌, ℕ, zero, suc, nat_lt, nat_le, not, Bool, true, false, List, length, take, slice_index, bytes_eq, decimal, Option, Some, None, refl, sym, ap, subst, arith}
use Rattle.std.specs.Prelude.{◌&&◌, ◌||◌}
use Rattle.std.specs.Char.{is_ascii_digit}
use Rattle.std.specs.Int.{IsInRange}
use Rattle.std.specs.Str.Parse.{AllDigits, digits_value}
use Rattle.std.proofs.lemmas.Bool.{ltb-true, ltb-false}
use Rattle.std.proofs.lemmas.Bool.Decides.{nat_tests, same_from_decides, Decides-eqb}
use Rattle.std.proofs.lemmas.Fmt.{decimal_injective, decimal_is_IsNumeral, decimal_digit, decimal_nonempty, first_decimal, decimal-digits_value}
use Rattle.std.proofs.lemmas.Int.Digits.{digits_more, digits_value_more}
use Rattle.std.proofs.lemmas.List.{take_all}
use Rattle.std.proofs.lemmas.Slice.Eq.{bytes_eq-Decides}
use Rattle.std.proofs.lemmas.Str.{digit_value_digit}
use Rattle.std.proofs.lemmas.Str.Parse.{IsNumeralModel, numerals_by_value, tells_digits, digit_at, digits_value-take-le}
use Rattle.col_common.specs.Reading.{only_if}
use Rattle.col_model.proofs.ItemLaws.{only_if-none}
use Rattle.col_csv_fields.specs.Fields.{IsNumberOf}

-- a text isn't empty, and has no zero before other bytes
abbrev pub begins : List ℕ → Bool
begins s = nat_lt 0 (length s) && (nat_le (length s) 1 || not (slice_index s 0 == 48))

-- the bytes up to a place are the digits of a number
pub record IsReadTo (s : List ℕ) (i : ℕ) (n : ℕ) : Type 0 where
  pub digits : AllDigits 10 (take i s)
  pub value : n ≡ digits_value 10 (take i s)
  pub fits : n < 2 ^ 64

own : IsNumeralModel (AllDigits 10) (digits_value 10)
own = numerals_by_value (AllDigits 10) tells_digits

digit-is : (c : ℕ) → IsInRange 48 57 c → is_ascii_digit c ≡ true
digit-is c h = grind (arith, nat_tests)

is-digit : (c : ℕ) → is_ascii_digit c ≡ true → IsInRange 48 57 c
is-digit c h = grind (arith, nat_tests)

first-tests : (s : List ℕ) → 0 < length s → 48 < slice_index s 0 → begins s ≡ true
first-tests s some first = grind (arith, nat_tests)

decimal-begins : (n : ℕ) → n < 2 ^ 64 → begins (decimal n) ≡ true
decimal-begins zero small = rw (decimal_digit 0 (omega arith)) refl
decimal-begins (suc n) small =
    first-tests (decimal (suc n)) (decimal_nonempty (suc n) small) (first_decimal (suc n) (omega arith) small)

-- another beginning
pub no-front : (s : List ℕ) → begins s ≡ false → IsNumberOf s None
no-front s bad n small is =
    let wrong : true ≡ false = sym (decimal-begins n small) ∙ ap begins is ∙ bad in
    cc

-- another byte than a digit
pub no-digit : (s : List ℕ) (i : ℕ) → i < length s → is_ascii_digit (slice_index s i) ≡ false
    → IsNumberOf s None
no-digit s i inside bad n small is =
    let all : AllDigits 10 s = subst (AllDigits 10) is (decimal_is_IsNumeral n small).0.1 in
    let wrong : true ≡ false = sym (digit-is (slice_index s i) (digit_at s i all inside)) ∙ bad in
    cc

-- what a test lets through
only-some : {A : Type 0} (t : Bool) (x y : A) → Some y ≡ only_if t x → (t ≡ true) × (y ≡ x)
only-some true x y h = (refl, cc)
only-some false x y h = cc

-- a number with one digit more
abbrev pub with-digit : ℕ → ℕ → Option ℕ
with-digit n d = only_if (nat_lt (n * 10 + d) (2 ^ 64)) (n * 10 + d)

-- its value
value-more : (s : List ℕ) (i n d : ℕ) → i < length s → IsReadTo s i n → is_ascii_digit (slice_index s i) ≡ true
    → d ≡ slice_index s i - 48 → n * 10 + d ≡ digits_value 10 (take (i + 1) s)
value-more s i n d inside read digit is =
    let value = digit_value_digit (slice_index s i) (is-digit (slice_index s i) digit) in
    let more = digits_value_more 10 s i inside in
    omega (arith, read.value)

-- the digits so far, and one more
pub digits-more : (s : List ℕ) (i n d m : ℕ) → i < length s → IsReadTo s i n → is_ascii_digit (slice_index s i) ≡ true
    → d ≡ slice_index s i - 48 → Some m ≡ with-digit n d → IsReadTo s (i + 1) m
digits-more s i n d m inside read digit is found =
    let told = only-some (nat_lt (n * 10 + d) (2 ^ 64)) (n * 10 + d) m found in
    let range = is-digit (slice_index s i) digit in
    let value = digit_value_digit (slice_index s i) range in
    let fits = ltb-true (n * 10 + d) (2 ^ 64) told.0 in record {
      digits = digits_more 10 s i inside read.digits (omega arith);
      value = told.1 ∙ value-more s i n d inside read digit is;
      fits = omega (arith, told.1);
    }

-- digits of a greater number
pub too-great : (s : List ℕ) (i n d : ℕ) → i < length s → IsReadTo s i n → is_ascii_digit (slice_index s i) ≡ true
    → d ≡ slice_index s i - 48 → None ≡ with-digit n d → IsNumberOf s None
too-great s i n d inside read digit is none m small same =
    let more = value-more s i n d inside read digit is in
    let much = ltb-false (n * 10 + d) (2 ^ 64) (only_if-none (nat_lt (n * 10 + d) (2 ^ 64)) (n * 10 + d) none) in
    let value : digits_value 10 s ≡ m = ap (digits_value 10) (sym same) ∙ (decimal_is_IsNumeral m small).1 in
    let fewer = digits_value-take-le 10 s (i + 1) (omega arith) in
    omega arith

-- all digits
pub read-all : (s : List ℕ) (i n : ℕ) → begins s ≡ true → length s ≤ i → IsReadTo s i n → decimal n ≡ s
read-all s i n front past read =
    let all : take i s ≡ s = take_all i s past in
    let digits : AllDigits 10 s = subst (AllDigits 10) all read.digits in
    let value : n ≡ digits_value 10 s = read.value ∙ ap (digits_value 10) all in
    let some : 0 < length s = grind (arith, nat_tests) in
    let lead : slice_index s 0 ≡ 48 → length s ≡ 1 = λ zero. grind (arith, nat_tests) in
    ap decimal value ∙ decimal-digits_value own s digits some lead (omega (arith, read.fits))

-- ---- rows

-- a number that is read is that of a row where its text is
pub row-read : (s : List ℕ) (n row : ℕ) → n < 2 ^ 64 → decimal n ≡ s → row < 2 ^ 64 → (n == row) ≡ bytes_eq s (decimal row)
row-read s n row small same few =
    same_from_decides {P = n ≡ row} (n == row) (bytes_eq s (decimal row)) (Decides-eqb n row) (
      λ e. decimal_injective n row small few (same ∙ (bytes_eq-Decides s (decimal row)).0 e),
      λ e. (bytes_eq-Decides s (decimal row)).1 (sym same ∙ ap decimal e),
    )
