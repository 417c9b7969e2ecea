-- Hexadecimal digits, none of them a capital, and the bytes that they spell.
use Rattle.std.proofs.Common.{◌≡◌, ◌<◌, ◌+◌, ◌*◌, ◌/◌, ◌%◌, ◌==◌, ◌∙◌, ℕ, zero, suc, cond, nat_lt, Bool, true, List, [], ◌∷◌, slice_index, Option, Some, None, Result, Ok, Err, refl, sym, ap, arith}
use Rattle.std.specs.Prelude.{◌&&◌}
use Rattle.std.specs.List.{list_all}
use Rattle.std.specs.Result.{result_unwrap_or}
use Rattle.std.proofs.lemmas.Bool.{and_from, and_parts}
use Rattle.std.proofs.lemmas.Bool.Decides.{nat_tests, Decides-below_and, Decides-eqb}
use Rattle.hex.specs.Hex.{◌>>=◌, IsBytes, decode_of, decode_pairs, digit_or_error, hex_digit_value, encode_lower, encode_with, lower_digits, pair_value, value_at}
use Rattle.hex.specs.declared.error.FromHexError.{FromHexError}
use Rattle.hex.proofs.HexLemmas.{decode_of-ok, decode_of-even}
use Rattle.col_csv_fields.specs.Fields.{is_lower_digit}

-- ---- one digit

-- the digit of a value
abbrev glyph : ℕ → ℕ
glyph v = cond (nat_lt v 10) (48 + v) (87 + v)

-- the first digits of the table are those
abbrev are_glyphs : ℕ → Bool
are_glyphs zero = true
are_glyphs (suc n) = (slice_index lower_digits n == glyph n) && are_glyphs n

table-is : (v : ℕ) → v < 16 → slice_index lower_digits v ≡ glyph v
table-is v small =
    (Decides-below_and (λ v. slice_index lower_digits v == glyph v) (λ v. slice_index lower_digits v ≡ glyph v) are_glyphs
    (λ v. Decides-eqb (slice_index lower_digits v) (glyph v)) refl (λ _. refl) 16).0 refl v small

-- a digit's value leads back to it
value-is : (c v : ℕ) → is_lower_digit c ≡ true → hex_digit_value c ≡ Some v → (v < 16) × (glyph v ≡ c)
value-is c v lower value = grind (arith, nat_tests)

-- the digit of a value isn't a capital
glyph-lower : (v : ℕ) → v < 16 → is_lower_digit (glyph v) ≡ true
glyph-lower v small = grind (arith, nat_tests)

-- nor is the table's
table-lower : (v : ℕ) → v < 16 → is_lower_digit (slice_index lower_digits v) ≡ true
table-lower v small = ap is_lower_digit (table-is v small) ∙ glyph-lower v small

-- ---- lists of digits

-- what the two steps of a reading gave
both-read : {A B : Type 0} (r : Result A FromHexError) (f : A → Result B FromHexError) (y : B)
    → (r >>= f) ≡ Ok y → (x : A) × (r ≡ Ok x) × (f x ≡ Ok y)
both-read (Ok x) f y h = (x, refl, h)
both-read (Err e) f y h = cc

-- the value of a digit that was read
digit-read : (c i : ℕ) (o : Option ℕ) (v : ℕ) → digit_or_error c i o ≡ Ok v → o ≡ Some v
digit-read c i (Some w) v h = cc
digit-read c i None v h = cc

-- a digit that was read, in the table
read-again : (c i v : ℕ) → is_lower_digit c ≡ true → value_at c i ≡ Ok v → (v < 16) × (slice_index lower_digits v ≡ c)
read-again c i v lower h =
    let is = value-is c v lower (digit-read c i (hex_digit_value c) v h) in
    (is.0, table-is v is.0 ∙ is.1)

pairs-again : (i : ℕ) (s bytes : List ℕ) → list_all is_lower_digit s ≡ true → decode_pairs i s ≡ Ok bytes → encode_lower bytes ≡ s
unfolding decode_pairs encode_with
pairs-again i [] bytes lower h =
    let e : [] ≡ bytes = ap (λ (r : Result (List ℕ) FromHexError). result_unwrap_or r []) h in
    rw (← e) refl
pairs-again i (a ∷ []) bytes lower h = cc
pairs-again i (a ∷ b ∷ rest) bytes lower h =
    let first = and_parts (is_lower_digit a) (is_lower_digit b && list_all is_lower_digit rest) lower in
    let second = and_parts (is_lower_digit b) (list_all is_lower_digit rest) first.1 in
    let pair = both-read (pair_value a b i) _ bytes h in
    let high = both-read (value_at a i) _ pair.0 pair.1 in
    let low = both-read (value_at b (i + 1)) _ pair.0 high.2 in
    let others = both-read (decode_pairs (i + 2) rest) _ bytes pair.2 in
    let left = read-again a i high.0 first.0 high.1 in
    let right = read-again b (i + 1) low.0 second.0 low.1 in
    let whole : pair.0 ∷ others.0 ≡ bytes = ap (λ (r : Result (List ℕ) FromHexError). result_unwrap_or r []) others.2 in
    let byte : high.0 * 16 + low.0 ≡ pair.0 = ap (λ (r : Result ℕ FromHexError). result_unwrap_or r 0) low.2 in
    let upper : pair.0 / 16 ≡ high.0 = omega (arith, byte, left.0, right.0) in
    let lesser : pair.0 % 16 ≡ low.0 = omega (arith, byte, left.0, right.0) in
    let again = pairs-again (i + 2) rest others.0 second.1 others.1 in
    ap encode_lower (sym whole)
    ∙ (λ t. slice_index lower_digits (upper t) ∷ slice_index lower_digits (lesser t) ∷ again t)
    ∙ (λ t. left.1 t ∷ right.1 t ∷ rest)

-- digits that aren't capitals are those of their bytes
pub lower-again : (s bytes : List ℕ) → list_all is_lower_digit s ≡ true → decode_of s ≡ Ok bytes → encode_lower bytes ≡ s
lower-again s bytes lower h =
    pairs-again 0 s bytes lower (sym (decode_of-even s (decode_of-ok s bytes h).0) ∙ h)

-- the digits of bytes aren't capitals
pub lower-digits : (bytes : List ℕ) → IsBytes bytes → list_all is_lower_digit (encode_lower bytes) ≡ true
unfolding encode_with
lower-digits [] h = refl
lower-digits (b ∷ bytes) h =
    let small : b < 256 = h 0 in
    and_from (is_lower_digit (slice_index lower_digits (b / 16))) _ (table-lower (b / 16) (omega arith))
    (and_from (is_lower_digit (slice_index lower_digits (b % 16))) _ (table-lower (b % 16) (omega arith))
    (lower-digits bytes (λ i. h (suc i))))
