-- Bits of words, and how many are set before one.
use Rattle.std.proofs.Common.{◌≡◌, ◌≢◌, ℕ, zero, suc, ◌+◌, ◌-◌, ◌*◌, ◌/◌, ◌%◌, ◌^◌, ◌<◌, ◌≤◌, Bool, true, false, cond, eqb, List, length, get_or, set, bit_and, bit_or, count_ones, refl, sym, ap, ◌∙◌, arith, mod-eq_of_lt}
use Rattle.std.specs.Int.{bit_at}
use Rattle.std.proofs.lemmas.Nat.Bits.{bit_at-lt}
use Rattle.std.proofs.lemmas.List.{get_or-set_same, get_or-set_other, get_or_default}
use Rattle.col_common.specs.Flags.{flag_at, flags_of}
use Rattle.col_common.proofs.FlagLemmas.{length-flags, flag-is, flags_put}
use Rattle.col_common.proofs.OnesLemmas.{no_ones, tested_bit, ones_more, below_mask}
use Rattle.col_places.specs.Bits.{set_below}

-- ---- one bit

-- the bits where one is set
module _ (words : List ℕ) (row : ℕ) (within : row < 64 * length words) where
  abbrev old : ℕ
  old = get_or words (row / 64) 0

  abbrev put : List ℕ
  put = set words (row / 64) (bit_or old (1 * 2 ^ (row % 64) % 2 ^ 64))

  put_is : flags_of put (64 * length words) ≡ set (flags_of words (64 * length words)) row true
  put_is =
      flags_put words (64 * length words) row row old (flags_of words (64 * length words)) refl refl within (omega arith)
      (get_or_default words (row / 64) 0 old (omega arith))

  pub bit-set : flag_at put row ≡ true
  bit-set =
      sym (flag-is put (64 * length words) row within) ∙ ap (λ fs. get_or fs row false) put_is
      ∙ get_or-set_same (flags_of words (64 * length words)) row true false
      (omega (arith, within, length-flags words (64 * length words)))

  pub bit-kept : (k : ℕ) → k ≢ row → k < 64 * length words → flag_at put k ≡ flag_at words k
  bit-kept k other inside =
      sym (flag-is put (64 * length words) k inside) ∙ ap (λ fs. get_or fs k false) put_is
      ∙ get_or-set_other (flags_of words (64 * length words)) row k true false other
      ∙ flag-is words (64 * length words) k inside

-- ---- how many are set

set-next : (words : List ℕ) (k : ℕ) → set_below words (suc k) ≡ cond (flag_at words k) 1 0 + set_below words k
set-next words k = refl

-- no more bits are set than there are
pub set-few : (words : List ℕ) (k : ℕ) → set_below words k ≤ k
set-few words zero = omega arith
set-few words (suc k) = by (flag_at words k) (set-few words k)
  where
    by : (b : Bool) → set_below words k ≤ k → cond b 1 0 + set_below words k ≤ suc k
    by true le = omega (arith, le)
    by false le = omega (arith, le)

-- those below a place in a word
in_word : (words : List ℕ) (w j : ℕ) → j ≤ 64
    → set_below words (64 * w + j) ≡ set_below words (64 * w) + count_ones (get_or words w 0 % 2 ^ j)
in_word words w zero k =
    let start : 64 * w + 0 ≡ 64 * w = omega arith in
    let none : get_or words w 0 % 2 ^ 0 ≡ 0 = omega arith in
    let nothing : count_ones (get_or words w 0 % 2 ^ 0) ≡ 0 = ap count_ones none ∙ no_ones in
    omega (arith, ap (set_below words) start, nothing)
in_word words w (suc j) k =
    let n : ℕ = get_or words w 0 in
    let row : ℕ = 64 * w + j in
    let next : 64 * w + suc j ≡ suc row = omega arith in
    let word : row / 64 ≡ w = omega arith in
    let place : row % 64 ≡ j = omega arith in
    let flag : eqb (bit_at n j) 1 ≡ flag_at words row =
    ap (λ i. eqb (bit_at (get_or words i 0) j) 1) (sym word) ∙ ap (λ i. eqb (bit_at (get_or words (row / 64) 0) i) 1) (sym place) in
    let bit : ◌≡◌ {A = ℕ} (cond (flag_at words row) 1 0) (bit_at n j) =
    ap (λ (b : Bool). cond b 1 0) (sym flag) ∙ tested_bit (bit_at n j) (bit_at-lt n j) in
    let more : count_ones (n % 2 ^ suc j) ≡ bit_at n j + count_ones (n % 2 ^ j) =
    ap (λ i. count_ones (n % 2 ^ i)) (omega arith) ∙ ones_more n j in
    omega (arith, ap (set_below words) next, set-next words row, bit, more, in_word words w j (omega arith))

-- those before the next word
pub set-word : (words : List ℕ) (w word : ℕ) → word < 2 ^ 64 → word ≡ get_or words w 0
    → set_below words (64 * w) + count_ones word ≡ set_below words (64 * (w + 1))
set-word words w word fits read =
    let next : 64 * w + 64 ≡ 64 * (w + 1) = omega arith in
    let all : get_or words w 0 % 2 ^ 64 ≡ word = ap (λ n. n % 2 ^ 64) (sym read) ∙ mod-eq_of_lt fits in
    omega (arith, ap (set_below words) next, ap count_ones all, in_word words w 64 (omega arith))

-- those before the word of a row and those below its bit in the word are those before the row
pub set-row : (words : List ℕ) (row before : ℕ) → before ≡ set_below words (64 * (row / 64))
    → before + count_ones (bit_and (get_or words (row / 64) 0) (1 * 2 ^ (row % 64) % 18446744073709551616 - 1)) ≡ set_below words row
set-row words row before was =
    let whole : 64 * (row / 64) + row % 64 ≡ row = omega arith in
    let ones = ap count_ones (below_mask (get_or words (row / 64) 0) (row % 64) (omega arith)) in
    omega (arith, ones, was, ap (set_below words) whole, in_word words (row / 64) (row % 64) (omega arith))
