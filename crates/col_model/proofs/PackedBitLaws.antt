-- A packed list has the bits of its bytes.
use Rattle.std.proofs.Common.{◌≡◌, ℕ, ◌+◌, ◌-◌, ◌*◌, ◌/◌, ◌%◌, ◌^◌, ◌<◌, List, length, slice_index, sym, ◌∙◌, ap, arith, lit<, mul_comm}
use Rattle.std.specs.Int.{bit_at, div_ceil}
use Rattle.std.proofs.lemmas.Nat.{pow_pos, shr-shr, mul-add-lt}
use Rattle.std.proofs.lemmas.Option.{cond_some}
use Rattle.std.proofs.lemmas.Bool.{and_parts, eqb-true}
use lib.Pow.{field, mod-mod-pow}
use Rattle.col_common.specs.Ascending.{AreBelow}
use Rattle.col_bits.specs.Packed.{number_of, digits, packed}
use Rattle.col_model.specs.PackedBits.{bit_of_bytes, PackedHasBits}
use Rattle.col_bits.proofs.PackedLemmas.{digits-at, digits-number_of, pow-pow}
use Rattle.col_model.proofs.OneFormLaws.{bytes_by_recursion}

-- the low w bits keep bit j
low-bit : (m w j : ℕ) → j < w → bit_at (m % 2 ^ w) j ≡ bit_at m j
low-bit m w j p =
    let k = w - j - 1 in
    let e : w ≡ (k + 1) + j = omega arith in
    rw e (ap (λ x. x % 2) (field m (k + 1) j) ∙ mod-mod-pow (m / 2 ^ j) k 1)

-- an item's bits are those of the whole number
item-bit : (n w count i j : ℕ) → i < count → j < w → bit_at (slice_index (digits (2 ^ w) count n) i) j ≡ bit_at n (i * w + j)
item-bit n w count i j p q =
    ap (λ x. bit_at x j) (digits-at (2 ^ w) count n i (pow_pos w) p)
    ∙ low-bit (n / (2 ^ w) ^ i) w j q
    ∙ ap (λ x. x % 2) (ap (λ x. n / x / 2 ^ j) (pow-pow w i) ∙ shr-shr n (i * w) j)

-- so are those of a byte
byte-bit : (bytes : List ℕ) (b : ℕ) → AreBelow 256 bytes → b / 8 < length bytes → bit_of_bytes bytes b ≡ bit_at (number_of 256 bytes) b
byte-bit bytes b all p =
    let n = number_of 256 bytes in
    let same : digits (2 ^ 8) (length bytes) n ≡ bytes = digits-number_of 256 bytes (lit< tt) all in
    let low : b % 8 < 8 = omega arith in
    let at : b / 8 * 8 + b % 8 ≡ b = omega arith in
    ap (λ xs. bit_at (slice_index xs (b / 8)) (b % 8)) (sym same) ∙ item-bit n 8 (length bytes) (b / 8) (b % 8) p low ∙ ap (bit_at n) at

-- a bit of an item is one of n * w
bit-below : (n w i j : ℕ) → i < n → j < w → i * w + j < n * w
bit-below n w i j p q = omega (arith, mul-add-lt i w j n p q, mul_comm w n)

-- a place below a count of bits is in the bytes that they take
byte-below : (b count : ℕ) → b < count → b / 8 < div_ceil count 8
byte-below b count p = omega arith

-- a packed list has the bits of its bytes
pub packed-bits : PackedHasBits
unfolding packed
packed-bits bytes w n items all e i j p q =
    let found = cond_some _ (digits (2 ^ w) n (number_of 256 bytes)) items e in
    let long = eqb-true (length bytes) (div_ceil (n * w) 8) (and_parts _ _ found.0).0 in
    let inside : (i * w + j) / 8 < length bytes = rw long (byte-below (i * w + j) (n * w) (bit-below n w i j p q)) in
    ap (λ xs. bit_at (slice_index xs i) j) (sym found.1)
    ∙ item-bit (number_of 256 bytes) w n i j p q
    ∙ sym (byte-bit bytes (i * w + j) (bytes_by_recursion bytes all) inside)
