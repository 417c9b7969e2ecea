-- Ranks by the bits of words.
use Rattle.std.proofs.Common.{◌≡◌, ℕ, zero, suc, ◌+◌, ◌-◌, ◌*◌, ◌/◌, ◌%◌, ◌^◌, ◌<◌, ◌≤◌, ◌||◌, Bool, true, false, cond, eqb, nat_eq, List, [], ◌∷◌, ◌++◌, length, get_or, set, take, replicate, bit_and, bit_or, count_ones, refl, sym, ap, ◌∙◌, arith, inl, inr, mod-eq_of_lt}
use Rattle.std.specs.Int.{bit_at}
use Rattle.std.proofs.lemmas.Bool.{cases_eq, eq-eqb, ne_eqb}
use Rattle.std.proofs.lemmas.Nat.Bits.{bit_at-lt, bit_at-zero}
use Rattle.std.proofs.lemmas.List.{get_or-set_same, get_or-set_other, get_or-replicate, get_or_read, get_or_default, take_more, length-set}
use Rattle.std.proofs.lemmas.List.Folds.{list_any-append}
use Rattle.std.proofs.lemmas.Option.{get_or_from_slice_get, slice_get_within}
use Rattle.std.specs.Prelude.{slice_get, Some}
use Rattle.col_common.specs.Ascending.{is_rising}
use Rattle.col_model.specs.Positions.{rank}
use Rattle.col_common.specs.Flags.{flags_of}
use Rattle.col_common.proofs.FlagLemmas.{length-flags, flag-is, flags_put}
use Rattle.col_common.proofs.OnesLemmas.{no_ones, tested_bit, ones_more, below_mask}
use Rattle.col_index.specs.Sets.{holds}
use Rattle.col_index.specs.Ranks.{HasFlags, AreRanks, ones_below}
use Rattle.col_index.proofs.HeldLaws.{rank-next}

-- ---- ranks by bits

module _ (rows words : List ℕ) (e : is_rising rows ≡ true) (f : HasFlags rows words) where
  -- the rows below a place in a word
  in_word : (w j : ℕ) → w < length words → j ≤ 64 → rank rows (64 * w + j) ≡ rank rows (64 * w) + count_ones (get_or words w 0 % 2 ^ j)
  in_word w zero h k =
      let start : 64 * w + 0 ≡ 64 * w = omega arith in
      let none : get_or words w 0 % 2 ^ 0 ≡ 0 = omega arith in
      let nothing : count_ones (get_or words w 0 % 2 ^ 0) ≡ 0 = ap count_ones none ∙ no_ones in
      omega (arith, ap (rank rows) start, nothing)
  in_word w (suc j) h k =
      let n : ℕ = get_or words w 0 in
      let row : ℕ = 64 * w + j in
      let next : 64 * w + suc j ≡ row + 1 = omega arith in
      let word : row / 64 ≡ w = omega arith in
      let place : row % 64 ≡ j = omega arith in
      let flag : eqb (bit_at n j) 1 ≡ holds rows row =
      ap (λ i. eqb (bit_at (get_or words i 0) j) 1) (sym word)
      ∙ (ap (λ i. eqb (bit_at (get_or words (row / 64) 0) i) 1) (sym place) ∙ f row (omega arith)) in
      let bit : ◌≡◌ {A = ℕ} (cond (holds rows row) 1 0) (bit_at n j) =
      ap (λ (b : Bool). cond b 1 0) (sym flag) ∙ tested_bit (bit_at n j) (bit_at-lt n j) in
      let more : count_ones (n % 2 ^ suc j) ≡ bit_at n j + count_ones (n % 2 ^ j) =
      ap (λ i. count_ones (n % 2 ^ i)) (omega arith) ∙ ones_more n j in
      omega (arith, ap (rank rows) next, rank-next rows row e, bit, more, in_word w j h (omega arith))

  -- the rows below the next word
  pub whole_word : (w word : ℕ) → w < length words → word < 2 ^ 64 → word ≡ get_or words w 0
      → rank rows (64 * w) + count_ones word ≡ rank rows (64 * (w + 1))
  whole_word w word h fits read =
      let next : 64 * w + 64 ≡ 64 * (w + 1) = omega arith in
      let all : get_or words w 0 % 2 ^ 64 ≡ word = ap (λ n. n % 2 ^ 64) (sym read) ∙ mod-eq_of_lt fits in
      omega (arith, ap (rank rows) next, ap count_ones all, in_word w 64 h (omega arith))

-- what the bits and the counts say is the rank
pub ones_below-rank : (rows words before : List ℕ) (row : ℕ) → is_rising rows ≡ true → AreRanks rows words before
    → row < 64 * length words → ones_below words before row ≡ rank rows row
ones_below-rank rows words before row e r h =
    let whole : 64 * (row / 64) + row % 64 ≡ row = omega arith in
    let count = r.counts.each (row / 64) (omega arith) in
    let within = in_word rows words e r.flags (row / 64) (row % 64) (omega arith) (omega arith) in
    omega (arith, ap (rank rows) whole, count, within)

-- ---- bits one after another

-- zeros are the bits of no row
pub flags_clear : (words : List ℕ) → words ≡ replicate (length words) 0 → HasFlags [] words
flags_clear words e k h =
    ap (λ ws. eqb (bit_at (get_or ws (k / 64) 0) (k % 64)) 1) e
    ∙ (ap (λ w. eqb (bit_at w (k % 64)) 1) (get_or-replicate (length words) (k / 64) 0 0 (omega arith))
    ∙ ap (λ b. eqb b 1) (bit_at-zero (k % 64)))

-- a test or a true one
pub or_true : (b : Bool) → (b || true) ≡ true
or_true true = refl
or_true false = refl

-- a test or a false one
pub or_false : (b : Bool) → (b || false) ≡ b
or_false true = refl
or_false false = refl

-- one row more
pub held_more : (rows : List ℕ) (at row k : ℕ) → slice_get rows at ≡ Some row
    → holds (take (at + 1) rows) k ≡ (holds (take at rows) k || nat_eq row k)
held_more rows at row k read =
    let within = slice_get_within rows at row read in
    let same = get_or_from_slice_get rows at row 0 read in
    ap (λ l. holds l k) (take_more rows at 0 within ∙ ap (λ x. take at rows ++ x ∷ []) same)
    ∙ (list_any-append (λ r. nat_eq r k) (take at rows) (row ∷ [])
    ∙ ap (λ b. holds (take at rows) k || b) (or_false (nat_eq row k)))

-- setting the bit of the next row makes the set bits those of one row more
pub flags_more : (rows words : List ℕ) (at row : ℕ) → HasFlags (take at rows) words → slice_get rows at ≡ Some row
    → row < 64 * length words
    → HasFlags (take (at + 1) rows)
    (set words (row / 64) (bit_or (get_or words (row / 64) 0) (1 * 2 ^ (row % 64) % 2 ^ 64)))
flags_more rows words at row f read h k within =
    let n : ℕ = 64 * length words in
    let old : ℕ = get_or words (row / 64) 0 in
    let here : old ≡ get_or words (row / 64) old = get_or_default words (row / 64) 0 old (omega arith) in
    let new : List ℕ = set words (row / 64) (bit_or old (1 * 2 ^ (row % 64) % 2 ^ 64)) in
    let long : length new ≡ length words = length-set words (row / 64) (bit_or old (1 * 2 ^ (row % 64) % 2 ^ 64)) in
    let inside : k < n = omega arith in
    let put : flags_of new n ≡ set (flags_of words n) row true =
    flags_put words n row row old (flags_of words n) refl refl h (omega arith) here in
    sym (flag-is new n k inside) ∙ (ap (λ fs. get_or fs k false) put ∙ elim (cases_eq k row) [
      | inl same ↦
          ap (λ i. get_or (set (flags_of words n) row true) i false) same
          ∙ (get_or-set_same (flags_of words n) row true false (omega (arith, length-flags words n))
          ∙ sym (held_more rows at row k read ∙ (ap (λ b. holds (take at rows) k || b) (eq-eqb row k (sym same))
          ∙ or_true (holds (take at rows) k))))
      | inr other ↦
          get_or-set_other (flags_of words n) row k true false other
          ∙ (flag-is words n k inside ∙ (f k inside
          ∙ sym (held_more rows at row k read
          ∙ (ap (λ b. holds (take at rows) k || b) (ne_eqb row k (λ s. other (sym s)))
          ∙ or_false (holds (take at rows) k)))))
    ])

-- ---- what the code reads

-- the ones before a row's word and those below its bit in the word are the ones below the row
pub read_below : (words before : List ℕ) (row word count : ℕ) → length before ≡ length words
    → row < 64 * length words → word ≡ get_or words (row / 64) word → count ≡ get_or before (row / 64) count
    → count + count_ones (bit_and word (1 * 2 ^ (row % 64) % 18446744073709551616 - 1))
    ≡ ones_below words before row
read_below words before row word count long h at_word at_count =
    let here : word ≡ get_or words (row / 64) 0 = get_or_read words (row / 64) word (omega arith) at_word 0 in
    let counted : count ≡ get_or before (row / 64) 0 = get_or_read before (row / 64) count (omega (arith, long)) at_count 0 in
    ap (λ n. count + count_ones n) (below_mask word (row % 64) (omega arith))
    ∙ (ap (λ n. count + count_ones (n % 2 ^ (row % 64))) here
    ∙ ap (λ n. n + count_ones (get_or words (row / 64) 0 % 2 ^ (row % 64))) counted)
