-- How many bits of a word are set.
use Rattle.std.proofs.Common.{◌≡◌, ℕ, zero, suc, ◌+◌, ◌-◌, ◌*◌, ◌/◌, ◌%◌, ◌^◌, ◌<◌, ◌≤◌, cond, eqb, bit_and, count_ones, refl, ap, ◌∙◌, arith, mod-eq_of_lt}
use Rattle.std.specs.Int.{bit_at}
use Rattle.std.specs.Int.Count.{ones_step}
use Rattle.std.proofs.Math.Pow.{pow-lt}
use Rattle.std.proofs.lemmas.Nat.{ones_cat, ones_le_self, and_mask, mod-pow-add, mod_below, pow_pos}
use Rattle.std.proofs.lemmas.Nat.Bits.{bit_at-lt}

-- a number of one bit
pub no_ones : count_ones 0 ≡ 0
no_ones = omega (arith, ones_le_self 0)

ones_of_bit : (b : ℕ) → b < 2 → count_ones b ≡ b
ones_of_bit zero h = no_ones
ones_of_bit (suc zero) h = omega (arith, ones_step 1, no_ones)
ones_of_bit (suc (suc b)) h = absurd (omega arith)

pub tested_bit : (b : ℕ) → b < 2 → cond (eqb b 1) 1 0 ≡ b
tested_bit zero h = refl
tested_bit (suc zero) h = refl
tested_bit (suc (suc b)) h = absurd (omega arith)

-- one bit more
pub ones_more : (n k : ℕ) → count_ones (n % 2 ^ (1 + k)) ≡ bit_at n k + count_ones (n % 2 ^ k)
ones_more n k =
    let split : n % 2 ^ (1 + k) ≡ bit_at n k * 2 ^ k + n % 2 ^ k = mod-pow-add n 1 k in
    ap count_ones split
    ∙ (ones_cat k (bit_at n k) (n % 2 ^ k) (mod_below n (2 ^ k) (pow_pos k))
    ∙ ap (λ b. b + count_ones (n % 2 ^ k)) (ones_of_bit (bit_at n k) (bit_at-lt n k)))

-- no more bits are set than there are
ones_below_few : (n k : ℕ) → count_ones (n % 2 ^ k) ≤ k
ones_below_few n zero =
    let none : n % 2 ^ 0 ≡ 0 = omega arith in
    omega (arith, ap count_ones none, no_ones)
ones_below_few n (suc k) =
    let next : suc k ≡ 1 + k = omega arith in
    omega (arith, ap (λ i. count_ones (n % 2 ^ i)) next, ones_more n k, bit_at-lt n k, ones_below_few n k)

-- of 64 bits at most 64 are set
pub ones_few : (n : ℕ) → n < 2 ^ 64 → count_ones n ≤ 64
ones_few n h = omega (arith, ap count_ones (mod-eq_of_lt h), ones_below_few n 64)

-- the code's mask
pub below_mask : (n k : ℕ) → k < 64 → bit_and n (1 * 2 ^ k % 18446744073709551616 - 1) ≡ n % 2 ^ k
below_mask n k h =
    let small : 2 ^ k < 2 ^ 64 = pow-lt h in
    let one : 1 * 2 ^ k ≡ 2 ^ k = omega arith in
    ap (λ m. bit_and n (m % 18446744073709551616 - 1)) one
    ∙ (ap (λ m. bit_and n (m - 1)) (mod-eq_of_lt small) ∙ and_mask n k)
