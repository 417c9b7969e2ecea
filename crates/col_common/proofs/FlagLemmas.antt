-- Flags by the bits of words.
use Rattle.std.proofs.Common.{◌≡◌, ℕ, zero, suc, ◌+◌, ◌-◌, ◌*◌, ◌/◌, ◌%◌, ◌^◌, ◌<◌, ◌≤◌, ◌≢◌, Bool, true, false, cond, eqb, List, length, get_or, set, replicate, bit_and, bit_or, refl, sym, ap, ◌∙◌, arith, inl, inr, ◌⊎◌}
use Rattle.std.specs.Int.{bit_at, w64, trailing_zeros}
use Rattle.std.proofs.lemmas.Bool.{cases_eq, cases_lt}
use Rattle.std.proofs.lemmas.Nat.{shr-shr, shr_below, shr_le}
use Rattle.std.proofs.lemmas.Nat.Bits.{bit_at_set_same, bit_at_set_other, bit_at-trailing_zeros, shr_and_one, bit_at-zero, bit_at_above}
use Rattle.std.proofs.lemmas.List.{ext_get_or, get_or-set_same, get_or-set_other, get_or-replicate, length-replicate, get_or_past, get_or_read}
use Rattle.std.proofs.Math.ListN.{length-set}
use Rattle.std.proofs.lemmas.List.FromFn.{length-map-range_with_len, get_or-map-range_with_len}
use Rattle.std.proofs.lemmas.List.Sums.{sum_by-set}
use Rattle.col_common.specs.Flags.{flag_at, flags_of, count_set, CountsFlags}

-- there are as many flags as are asked for
pub length-flags : (words : List ℕ) (n : ℕ) → length (flags_of words n) ≡ n
unfolding flags_of
length-flags words n = length-map-range_with_len (flag_at words) 0 n

-- the flag at a place is the bit of the words there
pub flag-is : (words : List ℕ) (n k : ℕ) → k < n → get_or (flags_of words n) k false ≡ flag_at words k
unfolding flags_of
flag-is words n k h = get_or-map-range_with_len (flag_at words) 0 n k k false h (omega arith)

-- flags by another spelling
flags_are : (words : List ℕ) (n : ℕ) (flags : List Bool) → length flags ≡ n
    → ((k : ℕ) → k < n → flag_at words k ≡ get_or flags k false) → flags_of words n ≡ flags
flags_are words n flags long each =
    ext_get_or false (flags_of words n) flags (length-flags words n ∙ sym long) (λ k h. let within : k < n = omega
    (arith, length-flags words n) in flag-is words n k within ∙ each k within)

-- words of zeros have no flag set
pub flags_none : (count n : ℕ) → n ≤ 64 * count → flags_of (replicate count 0) n ≡ replicate n false
flags_none count n room =
    flags_are (replicate count 0) n (replicate n false) (length-replicate n false)
    (λ k h. ap (λ w. eqb (bit_at w (k % 64)) 1) (get_or-replicate count (k / 64) 0 0 (omega arith))
    ∙ (ap (λ b. eqb b 1) (bit_at-zero (k % 64)) ∙ sym (get_or-replicate n k false false h)))

-- of flags that aren't set none counts
pub count_none : (n : ℕ) → count_set (replicate n false) ≡ 0
count_none zero = refl
count_none (suc n) = count_none n

-- the flag of a number, as the code reads it
pub flag_read : (words : List ℕ) (n k word : ℕ) (flags : List Bool) → flags_of words n ≡ flags → k < n
    → n ≤ 64 * length words → word ≡ get_or words (k / 64) word
    → eqb (bit_and (word / 2 ^ (k % 64)) 1) 1 ≡ get_or flags k false
flag_read words n k word flags view h room read =
    let here : word ≡ get_or words (k / 64) 0 = get_or_read words (k / 64) word (omega arith) read 0 in
    ap (λ b. eqb b 1) (shr_and_one word (k % 64) ∙ ap (λ w. bit_at w (k % 64)) here)
    ∙ (sym (flag-is words n k h) ∙ ap (λ f. get_or f k false) view)

-- a flag that is not changed
other_flag : (words : List ℕ) (el k new : ℕ) → (k ≡ el → ⊥) → el / 64 < length words
    → (k % 64 ≢ el % 64 → bit_at new (k % 64) ≡ bit_at (get_or words (el / 64) 0) (k % 64))
    → (k / 64 ≡ el / 64) ⊎ (k / 64 ≡ el / 64 → ⊥) → flag_at (set words (el / 64) new) k ≡ flag_at words k
other_flag words el k new other within bit (inl same) =
    let word : get_or (set words (el / 64) new) (k / 64) 0 ≡ new =
    ap (λ i. get_or (set words (el / 64) new) i 0) same ∙ get_or-set_same words (el / 64) new 0 within in
    let place : k % 64 ≢ el % 64 = omega arith in
    ap (λ w. eqb (bit_at w (k % 64)) 1) word
    ∙ (ap (λ b. eqb b 1) (bit place)
    ∙ ap (λ i. eqb (bit_at (get_or words i 0) (k % 64)) 1) (sym same))
other_flag words el k new other within bit (inr apart) =
    ap (λ w. eqb (bit_at w (k % 64)) 1) (get_or-set_other words (el / 64) (k / 64) new 0 apart)

-- a word with one bit more
set_flag : (words : List ℕ) (n el k : ℕ) → el < n → k < n → n ≤ 64 * length words → (k ≡ el) ⊎ (k ≢ el)
    → flag_at (set words (el / 64) (bit_or (get_or words (el / 64) 0) (1 * 2 ^ (el % 64) % 2 ^ 64))) k
    ≡ get_or (set (flags_of words n) el true) k false
set_flag words n el k h within room (inl same) =
    let old : ℕ = get_or words (el / 64) 0 in
    let new : ℕ = bit_or old (1 * 2 ^ (el % 64) % 2 ^ 64) in
    let word : get_or (set words (el / 64) new) (el / 64) 0 ≡ new = get_or-set_same words (el / 64) new 0 (omega arith) in
    let bit : bit_at new (el % 64) ≡ 1 = bit_at_set_same w64 old (el % 64) (omega arith) in
    let flag : flag_at (set words (el / 64) new) el ≡ true = ap (λ w. eqb (bit_at w (el % 64)) 1) word ∙ ap (λ b. eqb b 1) bit in
    let put : get_or (set (flags_of words n) el true) el false ≡ true =
    get_or-set_same (flags_of words n) el true false (omega (arith, length-flags words n)) in
    ap (flag_at (set words (el / 64) new)) same ∙ (flag ∙ (sym put ∙ ap (λ i. get_or (set (flags_of words n) el true) i false) (sym same)))
set_flag words n el k h within room (inr other) =
    let old : ℕ = get_or words (el / 64) 0 in
    let new : ℕ = bit_or old (1 * 2 ^ (el % 64) % 2 ^ 64) in
    let kept : get_or (set (flags_of words n) el true) k false ≡ flag_at words k =
    get_or-set_other (flags_of words n) el k true false other ∙ flag-is words n k within in
    other_flag words el k new other (omega arith)
    (λ ne. bit_at_set_other w64 old (el % 64) (omega arith) (k % 64) ne) (cases_eq (k / 64) (el / 64))
    ∙ sym kept

-- one flag is set
pub flags_set : (words : List ℕ) (n el : ℕ) → el < n → n ≤ 64 * length words
    → flags_of (set words (el / 64) (bit_or (get_or words (el / 64) 0) (1 * 2 ^ (el % 64) % 2 ^ 64))) n
    ≡ set (flags_of words n) el true
flags_set words n el h room =
    flags_are (set words (el / 64) (bit_or (get_or words (el / 64) 0) (1 * 2 ^ (el % 64) % 2 ^ 64))) n
    (set (flags_of words n) el true) (length-set (flags_of words n) el true ∙ length-flags words n)
    (λ k within. set_flag words n el k h within room (cases_eq k el))

-- and counted, where it was not set
pub count_more : (flags : List Bool) (el : ℕ) → el < length flags → get_or flags el false ≡ false
    → count_set (set flags el true) ≡ count_set flags + 1
count_more flags el h clear =
    let change = sum_by-set (λ (flag : Bool). cond flag 1 0) flags el true false h in
    let none : ◌≡◌ {A = ℕ} (cond (get_or flags el false) 1 0) 0 = ap (λ (b : Bool). cond b 1 0) clear in
    omega (arith, change, none)

-- what the code writes sets the flag
pub flags_put : (words : List ℕ) (n at el old : ℕ) (flags : List Bool) → flags_of words n ≡ flags → at ≡ el → at < n
    → n ≤ 64 * length words → old ≡ get_or words (at / 64) old
    → flags_of (set words (at / 64) (bit_or old (1 * 2 ^ (at % 64) % 2 ^ 64))) n ≡ set flags el true
flags_put words n at el old flags view same inside room read =
    let here : old ≡ get_or words (at / 64) 0 = get_or_read words (at / 64) old (omega arith) read 0 in
    ap (λ w. flags_of (set words (at / 64) (bit_or w (1 * 2 ^ (at % 64) % 2 ^ 64))) n) here
    ∙ (flags_set words n at inside room
    ∙ (ap (λ f. set f at true) view ∙ ap (λ i. set flags i true) same))

-- and counts it
pub counts_put : (words : List ℕ) (n at el old count : ℕ) (flags : List Bool) → flags_of words n ≡ flags → at ≡ el
    → at < n → old ≡ get_or words (at / 64) old → get_or flags el false ≡ false → CountsFlags words n count
    → CountsFlags (set words (at / 64) (bit_or old (1 * 2 ^ (at % 64) % 2 ^ 64))) n (count + 1)
counts_put words n at el old count flags view same inside read clear h =
    let put = flags_put words n at el old flags view same inside (omega (arith, h.room)) read in
    let more : count_set (set flags el true) ≡ count_set flags + 1 =
    count_more flags el (omega (arith, ap length view, length-flags words n)) clear in
    let before : count ≡ count_set flags = h.counted ∙ ap count_set view in
    record {
      room = length-set words (at / 64) (bit_or old (1 * 2 ^ (at % 64) % 2 ^ 64)) ∙ h.room;
      counted = omega (arith, before, more, ap count_set put);
    }

-- the flags of a word, from a place on
word_flag : (words : List ℕ) (at k : ℕ) → at ≤ k → k / 64 ≡ at / 64
    → flag_at words k ≡ eqb (bit_at (get_or words (at / 64) 0 / 2 ^ (at % 64)) (k - at)) 1
word_flag words at k above same =
    let place : at % 64 + (k - at) ≡ k % 64 = omega arith in
    ap (λ i. eqb (bit_at (get_or words i 0) (k % 64)) 1) same
    ∙ ap (λ b. eqb b 1) (ap (bit_at (get_or words (at / 64) 0)) (sym place)
    ∙ sym (ap (λ m. m % 2) (shr-shr (get_or words (at / 64) 0) (at % 64) (k - at))))

-- a flag past the last one is not set, and else it is a bit
flag_cases : (words : List ℕ) (n k : ℕ) (flags : List Bool) → flags_of words n ≡ flags
    → (k < n → flag_at words k ≡ false) → (k < n) ⊎ (n ≤ k) → get_or flags k false ≡ false
flag_cases words n k flags view clear (inl h) = ap (λ f. get_or f k false) (sym view) ∙ (flag-is words n k h ∙ clear h)
flag_cases words n k flags view clear (inr h) =
    get_or_past flags k false (omega (arith, ap length view, length-flags words n))

-- a word that is 0 from a place on has no flag set there
pub word_empty : (words : List ℕ) (n at word k : ℕ) (flags : List Bool) → flags_of words n ≡ flags → at < n
    → n ≤ 64 * length words → word ≡ get_or words (at / 64) word → word / 2 ^ (at % 64) ≡ 0 → at ≤ k
    → k < (at / 64 + 1) * 64 → get_or flags k false ≡ false
word_empty words n at word k flags view inside room read empty above below =
    let here : get_or words (at / 64) 0 ≡ word = sym (get_or_read words (at / 64) word (omega arith) read 0) in
    flag_cases words n k flags view
    (λ _. word_flag words at k above (omega arith)
    ∙ (ap (λ w. eqb (bit_at (w / 2 ^ (at % 64)) (k - at)) 1) here
    ∙ (ap (λ w. eqb (bit_at w (k - at)) 1) empty
    ∙ ap (λ b. eqb b 1) (bit_at-zero (k - at)))))
    (cases_lt k n)

low_within : (s low rest : ℕ) → s < 64 → rest < 2 ^ (64 - s) → bit_at rest low ≡ 1 → (s + low < 64) ⊎ (64 ≤ s + low) → s + low < 64
low_within s low rest h small one (inl below) = below
low_within s low rest h small one (inr above) =
    let none : bit_at rest low ≡ 0 = bit_at_above rest (64 - s) low small (omega arith) in
    absurd (omega (arith, none, one))

-- from a place on, the first flag that is set
pub record IsFirstFlag (flags : List Bool) (at found : ℕ) : Type 0 where
  pub before : (k : ℕ) → at ≤ k → k < found → get_or flags k false ≡ false
  pub here : found < length flags → get_or flags found false ≡ true

-- the lowest bit that is set is the first flag that is set
pub word_first : (words : List ℕ) (n at word : ℕ) (flags : List Bool) → flags_of words n ≡ flags → at < n
    → n ≤ 64 * length words → word ≡ get_or words (at / 64) word → word < 2 ^ 64 → 0 < word / 2 ^ (at % 64)
    → IsFirstFlag flags at (at + trailing_zeros w64 (word / 2 ^ (at % 64)))
word_first words n at word flags view inside room read fits some =
    let s : ℕ = at % 64 in
    let rest : ℕ = word / 2 ^ s in
    let low : ℕ = trailing_zeros w64 rest in
    let here : get_or words (at / 64) 0 ≡ word = sym (get_or_read words (at / 64) word (omega arith) read 0) in
    let whole : 64 - s + s ≡ 64 = omega arith in
    let small : rest < 2 ^ (64 - s) = shr_below word (64 - s) s (rw whole fits) in
    let short : rest < 2 ^ 64 = omega (arith, shr_le word s) in
    let bits = bit_at-trailing_zeros w64 rest some short in
    let within : s + low < 64 = low_within s low rest (omega arith) small bits.1 (cases_lt (s + low) 64) in
    let flag = λ (k : ℕ) (above : at ≤ k) (same : k / 64 ≡ at / 64). word_flag words at k above same
    ∙ ap (λ w. eqb (bit_at (w / 2 ^ s) (k - at)) 1) here in
    record {
      before = λ k above below. flag_cases words n k flags view
          (λ _. flag k above (omega arith) ∙ ap (λ b. eqb b 1) (bits.2 (k - at) (omega arith)))
          (cases_lt k n);
      here = λ h.
          let k : ℕ = at + low in
          let place : k - at ≡ low = omega arith in
          let before_end : k < n = omega (arith, ap length view, length-flags words n) in
          ap (λ f. get_or f k false) (sym view)
          ∙ (flag-is words n k before_end
          ∙ (flag k (omega arith) (omega arith) ∙ ap (λ b. eqb b 1) (ap (bit_at rest) place ∙ bits.1)));
    }
