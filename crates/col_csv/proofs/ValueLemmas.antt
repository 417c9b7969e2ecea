-- The text of a value is that of no other, and the value is found again.
use Rattle.std.proofs.Common.{◌≡◌, ℕ, zero, suc, ◌-◌, ◌<◌, ◌^◌, ◌==◌, true, false, ◌&&◌, cond, ℤ, pos, negsuc, int_le, int_lt, List, [], ◌∷◌, drop, get_or, bytes_eq, Some, refl, ◌∙◌, ap, arith}
use Rattle.std.specs.Prelude.{decimal, neg_ℤ}
use Rattle.std.specs.Fmt.{signed_decimal}
use Rattle.std.specs.Int.{to_be_bytes, w128}
use Rattle.std.specs.Result.{result_ok}
use Rattle.std.specs.Str.Parse.{digits_value, signed_digits_value, starts_with_minus, without_leading_plus, without_leading_sign}
use Rattle.std.specs.Int.Digits.{number_from_digits}
use Rattle.std.proofs.lemmas.Bool.{false≢true, and_parts, and_from, ne_eqb, ltb-true}
use Rattle.std.proofs.lemmas.Fmt.{decimal_is_IsNumeral}
use Rattle.std.proofs.lemmas.Int.{ints}
use Rattle.std.proofs.lemmas.Str.Parse.{digit_at}
use Rattle.hex.specs.Hex.{IsBytes, encode_lower}
use Rattle.hex.proofs.HexLemmas.{decode_of-encode_lower}
use Rattle.col_common.specs.Ascending.{AreBelow}
use Rattle.col_common.specs.Reading.{◌>>=◌, only_if}
use Rattle.col_common.proofs.OctetLemmas.{are_octets, octets_again}
use Rattle.col_model.specs.ColumnType.{ColumnType}
use Rattle.col_model.specs.ColumnType as types
use Rattle.col_model.specs.Limits.{is_of_type}
use Rattle.col_model.specs.Sound.{are_bytes, has_bytes}
use Rattle.col_model.specs.Table.{Cell, number, text}
use Rattle.col_model.proofs.OrderingLaws.{bytes_eq-same}
use Rattle.col_csv.specs.Csv.{value_text}
use Rattle.col_csv.specs.CsvTable.{digit_bytes, spelled, value_of_text}

-- ---- numbers

-- a digit is neither sign
no-sign : (n : ℕ) → n < 2 ^ 64 → (starts_with_minus (decimal n) ≡ false) × (without_leading_plus (decimal n) ≡ decimal n)
no-sign n h =
    let d = decimal_is_IsNumeral n h in
    let first = digit_at (decimal n) 0 d.0.1 d.0.0 in
    let minus : (get_or (decimal n) 0 0 == 45) ≡ false = ne_eqb (get_or (decimal n) 0 0) 45 (λ e. absurd (omega (arith, e, first.0))) in
    let plus : (get_or (decimal n) 0 0 == 43) ≡ false = ne_eqb (get_or (decimal n) 0 0) 43 (λ e. absurd (omega (arith, e, first.0))) in
    (minus, ap (λ b. drop (cond b 1 0) (decimal n)) plus)

-- a number that isn't negative is read again
pub unsigned-again : (n : ℕ) → n < 2 ^ 64 → signed_digits_value 10 (decimal n) ≡ pos n
unsigned-again n h =
    let s = no-sign n h in
    let d = decimal_is_IsNumeral n h in
    ap (λ b. cond b (neg_ℤ (pos (digits_value 10 (without_leading_sign (decimal n)))))
    (pos (digits_value 10 (without_leading_sign (decimal n))))) s.0
    ∙ ap (λ b. pos (digits_value 10 (cond b (drop 1 (decimal n)) (without_leading_plus (decimal n))))) s.0
    ∙ ap (λ ds. pos (digits_value 10 ds)) s.1 ∙ ap pos d.1

-- a negative one too
negative-again : (n : ℕ) → suc n < 2 ^ 64 → signed_digits_value 10 (45 ∷ decimal (suc n)) ≡ negsuc n
negative-again n h = ap (λ m. neg_ℤ (pos m)) (decimal_is_IsNumeral (suc n) h).1

-- numbers of 64 bits with their sign
signed-again : (z : ℤ) → int_le (negsuc (2 ^ 63 - 1)) z ≡ true → int_lt z (pos (2 ^ 63)) ≡ true
    → signed_digits_value 10 (signed_decimal z) ≡ z
signed-again (pos n) a b = unsigned-again n (omega (arith, ints, b))
signed-again (negsuc n) a b = negative-again n (omega (arith, ints, a))

-- ---- bytes

-- bytes by their places
by-places : (s : List ℕ) → are_bytes s ≡ true → IsBytes s
by-places [] h i = omega arith
by-places (b ∷ s) h zero = ltb-true b 256 (and_parts _ (are_bytes s) h).0
by-places (b ∷ s) h (suc i) = by-places s (and_parts _ (are_bytes s) h).1 i

-- numbers below 256 are bytes
pub below-places : (s : List ℕ) → AreBelow 256 s → IsBytes s
below-places [] h i = omega arith
below-places (b ∷ s) h zero = h.0
below-places (b ∷ s) h (suc i) = below-places s h.1 i

-- bytes are found again by their digits
digits-again : (s : List ℕ) → IsBytes s → digit_bytes (encode_lower s) ≡ Some s
digits-again s h = ap result_ok (decode_of-encode_lower s h)

-- ---- cells

-- a number in a range from 0 on
below-is : (n k : ℕ) → (int_le (pos 0) (pos n) && int_lt (pos n) (pos k)) ≡ true → n < k
below-is n k e = let p = (and_parts (int_le (pos 0) (pos n)) (int_lt (pos n) (pos k)) e).1 in ltb-true n k p

-- the text of a cell of the type spells that cell
spelled-again : (t : ColumnType) (c : Cell) → is_of_type t c ≡ true → has_bytes c ≡ true → spelled t (value_text t c) ≡ Some c
spelled-again types.i64 (number z) e h = let p = and_parts _ _ e in ap (λ z. Some (number z)) (signed-again z p.0 p.1)
spelled-again types.datetime (number z) e h = let p = and_parts _ _ e in ap (λ z. Some (number z)) (signed-again z p.0 p.1)
spelled-again types.u64 (number (pos n)) e h =
    let q = below-is n (2 ^ 64) e in ap (λ z. Some (number z)) (unsigned-again n q)
spelled-again types.u64 (number (negsuc n)) e h = absurd (false≢true e)
spelled-again types.bool (number (pos zero)) e h = refl
spelled-again types.bool (number (pos (suc zero))) e h = refl
spelled-again types.bool (number (pos (suc (suc n)))) e h =
    let q = below-is (suc (suc n)) 2 e in absurd (omega (arith, q))
spelled-again types.bool (number (negsuc n)) e h = absurd (false≢true e)
spelled-again types.ip (number (pos n)) e h =
    ap (λ o. o >>= λ b. Some (number (pos (number_from_digits 256 b))))
    (digits-again (to_be_bytes w128 n) (below-places (to_be_bytes w128 n) (are_octets n)))
    ∙ ap (λ n. Some (number (pos n))) (octets_again n (below-is n (2 ^ 128) e))
spelled-again types.ip (number (negsuc n)) e h = absurd (false≢true e)
spelled-again types.bytes (text s) e h = ap (λ o. o >>= λ b. Some (text b)) (digits-again s (by-places s h))
spelled-again types.str (text s) e h = refl
spelled-again types.str (number z) e h = absurd (false≢true e)
spelled-again types.bytes (number z) e h = absurd (false≢true e)
spelled-again types.i64 (text s) e h = absurd (false≢true e)
spelled-again types.u64 (text s) e h = absurd (false≢true e)
spelled-again types.bool (text s) e h = absurd (false≢true e)
spelled-again types.ip (text s) e h = absurd (false≢true e)
spelled-again types.datetime (text s) e h = absurd (false≢true e)

-- and stands for it
pub value-again : (t : ColumnType) (c : Cell) → is_of_type t c ≡ true → has_bytes c ≡ true → value_of_text t (value_text t c) ≡ Some c
value-again t c e h =
    ap (λ o. o >>= λ d. only_if (is_of_type t d && bytes_eq (value_text t d) (value_text t c)) d) (spelled-again t c e h)
    ∙ ap (λ b. only_if b c) (and_from _ _ e (bytes_eq-same (value_text t c)))
