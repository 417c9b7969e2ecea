-- The width of a number, by its count of leading zeros.
use Rattle.std.proofs.Common.{◌≡◌, ℕ, zero, suc, ◌+◌, ◌-◌, ◌*◌, ◌/◌, ◌^◌, ◌<◌, ◌≤◌, ◌∙◌, sym, arith, pow-suc, lt_of_lt_of_le, le_trans}
use Rattle.std.proofs.lemmas.Bool.{eq-eqb, ne_eqb, lt-ltb, le-ltb}
use Rattle.std.proofs.lemmas.Nat.{leading_length, pow_pos}
use native.Mathlib.Nat.{pow-le-pow_right, pow-zero}
use Rattle.std.proofs.Common.{lit<}
use lib.Count.{count_leading_zeros}
use Rattle.col_bits.specs.Packed.{binary_digits, width}

-- the count of binary digits, where at most k are asked for
pub binary_digits-is : (k n j : ℕ) → j ≤ k → n < 2 ^ j → 2 ^ j ≤ 2 * n + 1 → binary_digits k n ≡ j
binary_digits-is zero n j short below above = omega arith
binary_digits-is (suc k) n zero short below above =
    let none : n ≡ 0 = let b = rw (pow-zero 2) at below in omega (arith, b) in
    rw (eq-eqb n 0 none) (omega arith)
binary_digits-is (suc k) n (suc j) short below above =
    let b = rw (pow-suc 2 j) at below in
    let a = rw (pow-suc 2 j) at above in
    let later : binary_digits k (n / 2) ≡ j = binary_digits-is k (n / 2) j (omega arith) (omega (arith, b)) (omega (arith, a)) in
    rw (ne_eqb n 0 (omega (arith, a, pow_pos j))) (omega (arith, later))

-- a number of at most 56 bits has them as its width
pub num_bits-small : (n : ℕ) → n < 2 ^ 64 → 64 - count_leading_zeros 64 n ≤ 56 → 64 - count_leading_zeros 64 n ≡ width n
num_bits-small n fits short =
    let found = leading_length 64 n fits in
    let m : ℕ = found.0 in
    let count : count_leading_zeros 64 n + m ≡ 64 = found.1 in
    let small : m ≤ 56 = omega (arith, count) in
    let below : n < 2 ^ 56 = lt_of_lt_of_le found.2 (pow-le-pow_right {n = 2} (lit< tt) {i = m} {j = 56} small) in
    let digits : binary_digits 56 n ≡ m = binary_digits-is 56 n m small found.2 found.3 in
    let same : 64 - count_leading_zeros 64 n ≡ m = omega (arith, count) in
    rw (lt-ltb n (2 ^ 56) below) (same ∙ sym digits)

-- a number of more than 56 bits has the width 64
pub num_bits-large : (n : ℕ) → n < 2 ^ 64 → 56 < 64 - count_leading_zeros 64 n → 64 ≡ width n
num_bits-large n fits long =
    let found = leading_length 64 n fits in
    let m : ℕ = found.0 in
    let count : count_leading_zeros 64 n + m ≡ 64 = found.1 in
    let large : 57 ≤ m = omega (arith, count) in
    let power : 2 ^ 57 ≤ 2 * n + 1 = le_trans (pow-le-pow_right {n = 2} (lit< tt) {i = 57} {j = m} large) found.3 in
    let above : 2 ^ 56 ≤ n = omega (arith, power) in
    rw (le-ltb n (2 ^ 56) above) (omega arith)
