-- Setting the bits of rows that follow one another in a word.
use Rattle.std.proofs.Common.{◌≡◌, ℕ, zero, suc, ◌+◌, ◌-◌, ◌*◌, ◌/◌, ◌%◌, ◌^◌, ◌<◌, ◌≤◌, ◌||◌, ◌⊎◌, true, false, eqb, nat_eq, List, length, get_or, set, take, slice_get, Some, bit_or, sym, ap, subst, ◌∙◌, inl, inr, arith}
use Rattle.std.specs.Int.{bit_at}
use Rattle.std.proofs.lemmas.Bool.{cases_eq, cases_lt, eq-eqb, ne_eqb}
use Rattle.std.proofs.lemmas.Nat.{div-add-mod', pow_pos}
use Rattle.std.proofs.lemmas.Nat.Bits.{bit_at_or, bit_at-lt, bit_at-zero, bit_at_ones, bit_at_ones_above, bit_at_cat_low, bit_at_cat_high, ones_shr}
use Rattle.std.proofs.lemmas.List.{get_or-set_same, get_or-set_other, length-set}
use Rattle.col_index.specs.Ranks.{HasFlags}
use Rattle.col_index.specs.Sets.{holds}
use Rattle.col_index.proofs.RankWordLemmas.{held_more, or_true, or_false}

-- ---- rows that follow one another in a list

-- so many of the rows from a place on follow one another from a row on
abbrev pub Span : List ℕ → ℕ → ℕ → ℕ → Type 0
Span rows at row len = (i : ℕ) → i < len → slice_get rows (at + i) ≡ Some (row + i)

module _ (rows : List ℕ) (at row k : ℕ) where
  next : (len : ℕ) → Span rows at row (suc len)
      → holds (take (at + suc len) rows) k ≡ (holds (take (at + len) rows) k || nat_eq (row + len) k)
  next len s =
      let up : at + suc len ≡ at + len + 1 = omega arith in
      ap (λ n. holds (take n rows) k) up ∙ held_more rows (at + len) (row + len) k (s len (omega arith))

  -- those that don't, as before
  pub span_other : (len : ℕ) → Span rows at row len → (k < row) ⊎ (row + len ≤ k)
      → holds (take (at + len) rows) k ≡ holds (take at rows) k
  span_other zero s out = ap (λ n. holds (take n rows) k) (omega arith)
  span_other (suc len) s out =
      let apart : nat_eq (row + len) k ≡ false = ne_eqb (row + len) k (λ e. elim out [
        | inl below ↦ omega (arith, below, e)
        | inr above ↦ omega (arith, above, e)
      ]) in
      let earlier : (k < row) ⊎ (row + len ≤ k) = elim out [ inl below ↦ inl below | inr above ↦ inr (omega (arith, above)) ] in
      next len s ∙ ap (λ b. holds (take (at + len) rows) k || b) apart ∙ or_false (holds (take (at + len) rows) k)
      ∙ span_other len (λ i h. s i (omega arith)) earlier

  -- those that do are held
  pub span_own : (len : ℕ) → Span rows at row len → row ≤ k → k < row + len → holds (take (at + len) rows) k ≡ true
  span_own zero s from upto = absurd (omega arith)
  span_own (suc len) s from upto = elim (cases_eq (row + len) k) [
    | inl last ↦
        next len s ∙ ap (λ b. holds (take (at + len) rows) k || b) (eq-eqb (row + len) k last)
        ∙ or_true (holds (take (at + len) rows) k)
    | inr earlier ↦
        let held = span_own len (λ i h. s i (omega arith)) from (omega (arith, earlier)) in
        next len s ∙ ap (λ b. b || nat_eq (row + len) k) held
  ]

-- ---- the bits of a word

-- a bit of the code's mask, which has so many ones from a bit on
module _ (lowest len i : ℕ) (short : len ≤ 64) (h : i < 64) where
  abbrev pub mask : ℕ
  mask = 18446744073709551615 / 2 ^ (64 - len) * 2 ^ lowest % 2 ^ 64

  bit_whole : bit_at mask i ≡ bit_at ((2 ^ len - 1) * 2 ^ lowest + 0) i
  bit_whole =
      let ones : 18446744073709551615 / 2 ^ (64 - len) ≡ 2 ^ (64 - (64 - len)) - 1 = ones_shr 64 (64 - len) (omega arith) in
      let back : 64 - (64 - len) ≡ len = omega arith in
      let n : ℕ = 18446744073709551615 / 2 ^ (64 - len) * 2 ^ lowest in
      let none : (2 ^ len - 1) * 2 ^ lowest ≡ (2 ^ len - 1) * 2 ^ lowest + 0 = omega arith in
      sym (bit_at_cat_low (n / 2 ^ 64) 64 (n % 2 ^ 64) i h) ∙ ap (λ x. bit_at x i) (div-add-mod' n (2 ^ 64))
      ∙ ap (λ x. bit_at (x * 2 ^ lowest) i) (ones ∙ ap (λ j. 2 ^ j - 1) back)
      ∙ ap (λ x. bit_at x i) none

  pub mask_inside : lowest ≤ i → i < lowest + len → bit_at mask i ≡ 1
  mask_inside from upto =
      bit_whole ∙ bit_at_cat_high (2 ^ len - 1) lowest 0 i (pow_pos lowest) from ∙ bit_at_ones len (i - lowest) (omega arith)

  pub mask_outside : (i < lowest) ⊎ (lowest + len ≤ i) → bit_at mask i ≡ 0
  mask_outside (inl below) = bit_whole ∙ bit_at_cat_low (2 ^ len - 1) lowest 0 i below ∙ bit_at-zero i
  mask_outside (inr above) =
      bit_whole ∙ bit_at_cat_high (2 ^ len - 1) lowest 0 i (pow_pos lowest) (omega (arith, above))
      ∙ bit_at_ones_above len (i - lowest) (omega (arith, above))

-- setting the bits of rows that follow one another in a word makes the set bits those of as many rows more
module _ (rows words : List ℕ) (at row len : ℕ) (f : HasFlags (take at rows) words) (span : Span rows at row len)
    (room : row % 64 + len ≤ 64) (h : row < 64 * length words) where
  abbrev old : ℕ
  old = get_or words (row / 64) 0

  abbrev word : ℕ
  word = bit_or old (18446744073709551615 / 2 ^ (64 - len) * 2 ^ (row % 64) % 2 ^ 64)

  own_word : (k : ℕ) → k / 64 ≡ row / 64 → eqb (bit_at word (k % 64)) 1 ≡ holds (take (at + len) rows) k
  own_word k same =
      let bit = bit_at_or old (18446744073709551615 / 2 ^ (64 - len) * 2 ^ (row % 64) % 2 ^ 64) (k % 64) in
      let low = bit_at-lt old (k % 64) in
      let before : eqb (bit_at old (k % 64)) 1 ≡ holds (take at rows) k =
      ap (λ i. eqb (bit_at (get_or words i 0) (k % 64)) 1) (sym same) ∙ f k (omega (arith, same)) in
      elim (cases_lt k row) [
        | inl below ↦
            let none = mask_outside (row % 64) len (k % 64) (omega arith) (omega arith) (inl (omega (arith, same))) in
            let kept : bit_at word (k % 64) ≡ bit_at old (k % 64) = omega (arith, bit, none) in
            ap (λ b. eqb b 1) kept ∙ before ∙ sym (span_other rows at row k len span (inl below))
        | inr from ↦ elim (cases_lt k (row + len)) [
          | inl upto ↦
              let one = mask_inside (row % 64) len (k % 64) (omega arith) (omega arith) (omega (arith, same)) (omega (arith, same)) in
              let put : bit_at word (k % 64) ≡ 1 = omega (arith, bit, one, low) in
              ap (λ b. eqb b 1) put ∙ sym (span_own rows at row k len span from upto)
          | inr above ↦
              let none = mask_outside (row % 64) len (k % 64) (omega arith) (omega arith) (inr (omega (arith, same))) in
              let kept : bit_at word (k % 64) ≡ bit_at old (k % 64) = omega (arith, bit, none) in
              ap (λ b. eqb b 1) kept ∙ before ∙ sym (span_other rows at row k len span (inr above))
        ]
      ]

  pub flags_spanned : HasFlags (take (at + len) rows) (set words (row / 64) word)
  flags_spanned k within =
      let inside : k < 64 * length words = omega (arith, length-set words (row / 64) word) in
      elim (cases_eq (k / 64) (row / 64)) [
        | inl same ↦
            let read : get_or (set words (row / 64) word) (k / 64) 0 ≡ word =
            ap (λ i. get_or (set words (row / 64) word) i 0) same ∙ get_or-set_same words (row / 64) word 0 (omega arith) in
            ap (λ w. eqb (bit_at w (k % 64)) 1) read ∙ own_word k same
        | inr other ↦
            let out : (k < row) ⊎ (row + len ≤ k) = elim (cases_lt k row) [
              | inl below ↦ inl below
              | inr from ↦ inr (omega (arith, other))
            ] in
            ap (λ w. eqb (bit_at w (k % 64)) 1) (get_or-set_other words (row / 64) (k / 64) word 0 other)
            ∙ f k inside ∙ sym (span_other rows at row k len span out)
      ]

-- the same of rows of a run
pub flags_run : (rows words : List ℕ) (before inside row len : ℕ) → HasFlags (take (before + inside) rows) words
    → Span rows (before + inside) row len → row % 64 + len ≤ 64 → row < 64 * length words
    → HasFlags (take (before + (inside + len)) rows)
    (set words (row / 64) (bit_or (get_or words (row / 64) 0) (18446744073709551615 / 2 ^ (64 - len) * 2 ^ (row % 64) % 2 ^ 64)))
flags_run rows words before inside row len f span room h =
    let new : List ℕ = set words (row / 64)
    (bit_or (get_or words (row / 64) 0) (18446744073709551615 / 2 ^ (64 - len) * 2 ^ (row % 64) % 2 ^ 64)) in
    let next : before + inside + len ≡ before + (inside + len) = omega arith in
    subst (λ n. HasFlags (take n rows) new) next (flags_spanned rows words (before + inside) row len f span room h)
