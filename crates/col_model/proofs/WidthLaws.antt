-- A width holds its number.
use Rattle.std.proofs.Common.{◌≡◌, ℕ, zero, suc, ◌+◌, ◌*◌, ◌/◌, ◌^◌, ◌<◌, inl, inr, arith, pow-suc, ◌≤◌, true}
use Rattle.std.proofs.lemmas.Bool.{cases_eq, cases_lt, eq-eqb, ne_eqb, lt-ltb, le-ltb}
use Rattle.col_bits.specs.Packed.{binary_digits, width, is_width}
use Rattle.std.proofs.lemmas.Bool.Decides.{nat_tests}

-- a number below 2 ^ k is below 2 to its count of binary digits
pub binary_digits-above : (k n : ℕ) → n < 2 ^ k → n < 2 ^ binary_digits k n
binary_digits-above zero n h = h
binary_digits-above (suc k) n h =
    elim (cases_eq n 0) [
      | inl e ↦ rw (eq-eqb n 0 e) (omega arith)
      | inr p ↦ rw (ne_eqb n 0 p, pow_more' (binary_digits k (n / 2))) (let later =
          binary_digits-above k (n / 2) (halved k n h) in omega (arith, later))
    ]
  where
    halved : (k n : ℕ) → n < 2 ^ suc k → n / 2 < 2 ^ k
    halved k n h = let h' = rw (pow-suc 2 k) at h in omega (arith, h')

    pow_more' : (j : ℕ) → 2 ^ (1 + j) ≡ 2 ^ j * 2
    pow_more' j = let e : 1 + j ≡ suc j = omega arith in rw e (pow-suc 2 j)

-- a number below 2 ^ 64 fits into the bits that its width counts
pub width-above : (n : ℕ) → n < 2 ^ 64 → n < 2 ^ width n
width-above n h =
    elim (cases_lt n (2 ^ 56)) [
      | inl p ↦ rw (lt-ltb n (2 ^ 56) p) (binary_digits-above 56 n p)
      | inr p ↦ rw (le-ltb n (2 ^ 56) p) h
    ]

-- a width that a file may name is at most 64
pub width-most : (w : ℕ) → is_width w ≡ true → w ≤ 64
width-most w e = grind (arith, nat_tests)
