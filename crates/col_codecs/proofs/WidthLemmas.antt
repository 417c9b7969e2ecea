-- A width is at most 64.
use Rattle.std.proofs.Common.{ℕ, zero, suc, ◌/◌, ◌^◌, ◌≤◌, inl, inr, arith}
use Rattle.std.proofs.lemmas.Bool.{cases_eq, cases_lt, eq-eqb, ne_eqb, lt-ltb, le-ltb}
use Rattle.col_bits.specs.Packed.{binary_digits, width}

binary_digits-bound : (k n : ℕ) → binary_digits k n ≤ k
binary_digits-bound zero n = omega arith
binary_digits-bound (suc k) n =
    elim (cases_eq n 0) [
      | inl e ↦ rw (eq-eqb n 0 e) (omega arith)
      | inr p ↦ rw (ne_eqb n 0 p) (omega (arith, binary_digits-bound k (n / 2)))
    ]

-- a width is at most 64
pub width-bound : (n : ℕ) → width n ≤ 64
width-bound n =
    elim (cases_lt n (2 ^ 56)) [
      | inl h ↦ rw (lt-ltb n (2 ^ 56) h) (omega (arith, binary_digits-bound 56 n))
      | inr h ↦ rw (le-ltb n (2 ^ 56) h) (omega arith)
    ]
