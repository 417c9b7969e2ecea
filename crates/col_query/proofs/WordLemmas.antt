-- Bits of words that are written.
use Rattle.std.proofs.Common.{◌≡◌, ℕ, zero, suc, ◌+◌, ◌-◌, ◌*◌, ◌/◌, ◌%◌, ◌^◌, ◌<◌, ◌≢◌, Bool, true, false, cond, not, ◌&&◌, ◌||◌, eqb, eq-eqb, List, [], ◌∷◌, length, get_or, set, bit_and, bit_or, bit_xor, min, refl, sym, ap, ◌∙◌, arith, inl, inr, ◌⊎◌}
use Rattle.std.specs.Int.{bit_at, bit_not, w64}
use Rattle.std.proofs.lemmas.Bool.{cases_eq, ne_eqb}
use Rattle.std.proofs.lemmas.Nat.Bits.{bit_at_set_same, bit_at_set_other, bit_at_clear_same, bit_at_clear_other, bit_at-lt, bit_at_and, bit_at_xor, bit_at_ones}
use Rattle.std.proofs.lemmas.List.{get_or-set_same, get_or-set_other}
use Rattle.col_common.specs.Flags.{flag_at}

-- a word in place of another, of which one bit is known and the others are as before
flag_written : (words : List ℕ) (el k new : ℕ) (value : Bool) → el / 64 < length words
    → eqb (bit_at new (el % 64)) 1 ≡ value
    → ((i : ℕ) → i < 64 → i ≢ el % 64 → bit_at new i ≡ bit_at (get_or words (el / 64) 0) i)
    → flag_at (set words (el / 64) new) k ≡ cond (eqb k el) value (flag_at words k)
flag_written words el k new value within here others = by (cases_eq k el) (cases_eq (k / 64) (el / 64))
  where
    word : k / 64 ≡ el / 64 → get_or (set words (el / 64) new) (k / 64) 0 ≡ new
    word same = ap (λ i. get_or (set words (el / 64) new) i 0) same ∙ get_or-set_same words (el / 64) new 0 within

    by : (k ≡ el) ⊎ (k ≡ el → ⊥) → (k / 64 ≡ el / 64) ⊎ (k / 64 ≡ el / 64 → ⊥)
        → flag_at (set words (el / 64) new) k ≡ cond (eqb k el) value (flag_at words k)
    by (inl same) d =
        ap (λ w. eqb (bit_at w (k % 64)) 1) (word (ap (λ m. m / 64) same))
        ∙ (ap (λ m. eqb (bit_at new (m % 64)) 1) same ∙ here)
        ∙ sym (ap (λ b. cond b value (flag_at words k)) (eq-eqb k el same))
    by (inr other) (inl same) =
        let place : k % 64 ≢ el % 64 = omega arith in
        ap (λ w. eqb (bit_at w (k % 64)) 1) (word same)
        ∙ (ap (λ b. eqb b 1) (others (k % 64) (omega arith) place)
        ∙ ap (λ i. eqb (bit_at (get_or words i 0) (k % 64)) 1) (sym same))
        ∙ sym (ap (λ b. cond b value (flag_at words k)) (ne_eqb k el other))
    by (inr other) (inr apart) =
        ap (λ w. eqb (bit_at w (k % 64)) 1) (get_or-set_other words (el / 64) (k / 64) new 0 apart)
        ∙ sym (ap (λ b. cond b value (flag_at words k)) (ne_eqb k el other))

-- a bit that is set
pub flag_set : (words : List ℕ) (el k : ℕ) → el / 64 < length words
    → flag_at (set words (el / 64) (bit_or (get_or words (el / 64) 0) (1 * 2 ^ (el % 64) % 2 ^ 64))) k
    ≡ cond (eqb k el) true (flag_at words k)
flag_set words el k within =
    let old : ℕ = get_or words (el / 64) 0 in
    flag_written words el k (bit_or old (1 * 2 ^ (el % 64) % 2 ^ 64)) true within
    (ap (λ b. eqb b 1) (bit_at_set_same w64 old (el % 64) (omega arith)))
    (λ i h ne. bit_at_set_other w64 old (el % 64) (omega arith) i ne)

-- a bit that is cleared
pub flag_cleared : (words : List ℕ) (el k : ℕ) → el / 64 < length words
    → flag_at (set words (el / 64) (bit_and (get_or words (el / 64) 0) (2 ^ 64 - 1 - 1 * 2 ^ (el % 64) % 2 ^ 64))) k
    ≡ cond (eqb k el) false (flag_at words k)
flag_cleared words el k within =
    let old : ℕ = get_or words (el / 64) 0 in
    flag_written words el k (bit_and old (bit_not w64 (1 * 2 ^ (el % 64) % 2 ^ 64))) false within
    (ap (λ b. eqb b 1) (bit_at_clear_same w64 old (el % 64) (omega arith)))
    (λ i h ne. bit_at_clear_other w64 old (el % 64) (omega arith) i h ne)

-- one bit after others
pub flag_after : (found here value flag before : Bool) → flag ≡ cond here value (cond found value before)
    → flag ≡ cond (found || here) value before
flag_after true true value flag before e = e
flag_after true false value flag before e = e
flag_after false true value flag before e = e
flag_after false false value flag before e = e

-- bits that are turned over
turned_bit : (b : ℕ) → b < 2 → eqb ((b + 1) % 2) 1 ≡ not (eqb b 1)
turned_bit zero h = refl
turned_bit (suc zero) h = refl
turned_bit (suc (suc b)) h = absurd (omega arith)

-- words each of which is turned over
pub flags_turned : (old new : List ℕ) → ((i : ℕ) → i < length old → get_or new i 0 ≡ bit_xor (get_or old i 0) (2 ^ 64 - 1))
    → (k : ℕ) → k < 64 * length old → flag_at new k ≡ not (flag_at old k)
flags_turned old new each k h =
    let word : ℕ = get_or old (k / 64) 0 in
    let ones : bit_at (2 ^ 64 - 1) (k % 64) ≡ 1 = bit_at_ones 64 (k % 64) (omega arith) in
    ap (λ w. eqb (bit_at w (k % 64)) 1) (each (k / 64) (omega arith))
    ∙ (ap (λ b. eqb b 1) (bit_at_xor word (2 ^ 64 - 1) (k % 64) ∙ ap (λ b. (bit_at word (k % 64) + b) % 2) ones)
    ∙ turned_bit (bit_at word (k % 64)) (bit_at-lt word (k % 64)))

both_bits : (a b : ℕ) → a < 2 → b < 2 → eqb (min a b) 1 ≡ (eqb a 1 && eqb b 1)
both_bits zero zero p q = refl
both_bits zero (suc zero) p q = refl
both_bits (suc zero) zero p q = refl
both_bits (suc zero) (suc zero) p q = refl
both_bits (suc (suc a)) b p q = absurd (omega arith)
both_bits zero (suc (suc b)) p q = absurd (omega arith)
both_bits (suc zero) (suc (suc b)) p q = absurd (omega arith)

-- words each of which keeps the bits of another
pub flags_both : (old others new : List ℕ) → ((i : ℕ) → i < length old → get_or new i 0 ≡ bit_and (get_or old i 0) (get_or others i 0))
    → (k : ℕ) → k < 64 * length old → flag_at new k ≡ (flag_at old k && flag_at others k)
flags_both old others new each k h =
    let a : ℕ = get_or old (k / 64) 0 in
    let b : ℕ = get_or others (k / 64) 0 in
    ap (λ w. eqb (bit_at w (k % 64)) 1) (each (k / 64) (omega arith))
    ∙ (ap (λ b. eqb b 1) (bit_at_and a b (k % 64))
    ∙ both_bits (bit_at a (k % 64)) (bit_at b (k % 64)) (bit_at-lt a (k % 64)) (bit_at-lt b (k % 64)))

-- a word that is there, whatever stands for one that isn't
pub read_word : (words : List ℕ) (i d : ℕ) → i < length words → get_or words i 0 ≡ get_or words i d
read_word [] i d h = absurd (omega arith)
read_word (w ∷ words) zero d h = refl
read_word (w ∷ words) (suc i) d h = read_word words i d (omega arith)
