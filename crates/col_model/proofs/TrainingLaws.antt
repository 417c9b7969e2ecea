-- Numbers wrap at 2 ^ 64: what is taken off a line is put back, and what is trained fits.
use Rattle.std.proofs.Common.{◌≡◌, ℕ, ◌+◌, ◌-◌, ◌*◌, ◌/◌, ◌%◌, ◌^◌, ◌<◌, inl, inr, List, arith, lit<, mod-lt, div-le_self}
use Rattle.std.proofs.lemmas.Bool.{cases_eq, cases_lt, lt-ltb, le-ltb, le-leb, lt-leb, eq-eqb, ne_eqb}
use Rattle.col_model.specs.Line.{signed_32, line}
use Rattle.col_model.specs.Training.{less_wrapped, rise, fall, trained_slope, trained_line}
use Rattle.col_model.specs.U64List.{LinearParams, above_line}
use Rattle.col_model.specs.Codecs.{offset_from}

-- a line's value fits 64 bits
pub line-below : (slope intercept x : ℕ) → line slope intercept x < 2 ^ 64
unfolding line
line-below slope intercept x = mod-lt (intercept + signed_32 (x * slope % 2 ^ 64 / 2 ^ 32)) (lit< tt)

-- a difference that wraps at 2 ^ 64 is below it
pub less_wrapped-below : (m n : ℕ) → less_wrapped m n < 2 ^ 64
less_wrapped-below m n = mod-lt (m + (2 ^ 64 - n)) (lit< tt)

-- what is taken off is put back
pub add-less_wrapped : (v n : ℕ) → v < 2 ^ 64 → n < 2 ^ 64 → (n + less_wrapped v n) % 2 ^ 64 ≡ v
add-less_wrapped v n p q = omega arith

-- an item lies above the line by its offset
pub above_line-offset_from : (l : LinearParams) (i v : ℕ) → v < 2 ^ 64 → above_line l (i, offset_from l (i, v)) ≡ v
above_line-offset_from l i v p = add-less_wrapped v (line l.slope l.intercept i) p (line-below l.slope l.intercept i)

rise-below : (a steps : ℕ) → rise a steps < 2 ^ 64
rise-below a steps =
    elim (cases_lt a (2 ^ 31)) [
      | inl p ↦ rw (lt-ltb a (2 ^ 31) p) (omega (arith, div-le_self (a * 2 ^ 32) steps))
      | inr p ↦ rw (le-ltb a (2 ^ 31) p) (lit< tt)
    ]

fall-below : (a steps : ℕ) → fall a steps < 2 ^ 64
fall-below a steps =
    elim (cases_lt a (2 ^ 31)) [
      | inl p ↦ rw (lt-ltb a (2 ^ 31) p) (omega arith)
      | inr p ↦ rw (le-ltb a (2 ^ 31) p) (lit< tt)
    ]

-- a slope fits 64 bits
pub trained_slope-below : (first last steps : ℕ) → trained_slope first last steps < 2 ^ 64
unfolding trained_slope
trained_slope-below first last steps =
    let up = less_wrapped last first in
    elim (cases_lt (2 ^ 63) up) [
      | inl p ↦ rw (lt-leb up (2 ^ 63) p) (fall-below (2 ^ 64 - up) steps)
      | inr p ↦ rw (le-leb up (2 ^ 63) p) (rise-below up steps)
    ]

-- so do a trained slope and a trained intercept
pub trained_line-below : (first last n : ℕ) (items : List (ℕ × ℕ))
    → let l = trained_line first last n items in (l.0 < 2 ^ 64) × (l.1 < 2 ^ 64)
unfolding trained_line
trained_line-below first last n items =
    let slope = trained_slope first last (n - 1) in
    elim (cases_eq n 1) [
      | inl e ↦ rw (eq-eqb n 1 e) (lit< tt, lit< tt)
      | inr p ↦ rw (ne_eqb n 1 p) (trained_slope-below first last (n - 1), mod-lt _ (lit< tt))
    ]
