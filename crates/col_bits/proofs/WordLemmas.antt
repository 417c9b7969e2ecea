-- Items of a packed list, read by one load of eight bytes.
use Rattle.std.proofs.Common.{◌≡◌, ℕ, zero, suc, ◌+◌, ◌-◌, ◌*◌, ◌/◌, ◌%◌, ◌^◌, ◌<◌, ◌≤◌, List, [], ◌∷◌, length, drop, get_or, refl, sym, ◌∙◌, ap, arith, bit_and, IsTrue}
use Rattle.std.proofs.lemmas.List.{drop_all}
use Rattle.std.proofs.lemmas.Nat.{shr-shr, field_of, and_mask}
use Rattle.std.proofs.Math.Pow.{mod-mod-pow}
use Rattle.std.proofs.lemmas.Bool.Decides.{nat_tests}
use Rattle.std.specs.Int.{from_le_bytes, w64}
use Rattle.col_bits.specs.Packed.{number_of, is_width, item}

-- each is a byte
abbrev pub AreBytes : List ℕ → Type 0
AreBytes bs = (k : ℕ) → get_or bs k 0 < 256

-- the number from byte k on, by its first byte and the rest
step : (bs : List ℕ) (k : ℕ) → number_of 256 (drop k bs) ≡ get_or bs k 0 + 256 * number_of 256 (drop (suc k) bs)
step [] zero = refl
step (b ∷ bs) zero = refl
step [] (suc k) = refl
step (b ∷ bs) (suc k) = step bs k

-- the number from byte k on is the high part of the whole
pub after : (bs : List ℕ) (k : ℕ) → AreBytes bs → number_of 256 bs / 2 ^ (8 * k) ≡ number_of 256 (drop k bs)
after bs zero h = omega arith
after bs (suc k) h =
    let small : get_or bs k 0 < 256 = h k in
    let next : number_of 256 (drop k bs) / 2 ^ 8 ≡ number_of 256 (drop (suc k) bs) = omega (arith, step bs k) in
    ap (λ n. number_of 256 bs / 2 ^ n) (omega arith)
    ∙ (sym (shr-shr (number_of 256 bs) (8 * k) 8) ∙ (ap (λ n. n / 2 ^ 8) (after bs k h) ∙ next))

-- one byte more, where its place is the next number
pub step_to : (bs : List ℕ) (k j : ℕ) → j ≡ k + 1 → number_of 256 (drop k bs) ≡ get_or bs k 0 + 256 * number_of 256 (drop j bs)
step_to bs k j e = let same : suc k ≡ j = omega arith in step bs k ∙ ap (λ n. get_or bs k 0 + 256 * number_of 256 (drop n bs)) same

-- eight bytes read as one number
pub word_is : (bs : List ℕ) (at : ℕ) → AreBytes bs
    → from_le_bytes w64 (get_or bs at 0 ∷ get_or bs (at + 1) 0 ∷ get_or bs (at + 2) 0 ∷ get_or bs (at + 3) 0
    ∷ get_or bs (at + 4) 0 ∷ get_or bs (at + 5) 0 ∷ get_or bs (at + 6) 0 ∷ get_or bs (at + 7) 0 ∷ [])
    ≡ number_of 256 bs / 2 ^ (8 * at) % 2 ^ 64
word_is bs at h =
    let s0 = step_to bs at (at + 1) (omega arith) in
    let s1 = step_to bs (at + 1) (at + 2) (omega arith) in
    let s2 = step_to bs (at + 2) (at + 3) (omega arith) in
    let s3 = step_to bs (at + 3) (at + 4) (omega arith) in
    let s4 = step_to bs (at + 4) (at + 5) (omega arith) in
    let s5 = step_to bs (at + 5) (at + 6) (omega arith) in
    let s6 = step_to bs (at + 6) (at + 7) (omega arith) in
    let s7 = step_to bs (at + 7) (at + 8) (omega arith) in
    omega (arith, after bs at h, h at, h (at + 1), h (at + 2), h (at + 3), h (at + 4), h (at + 5), h (at + 6), h (at + 7))

-- behind the last byte all are 0
pub word_past : (bs : List ℕ) (at : ℕ) → AreBytes bs → length bs ≤ at → 0 ≡ number_of 256 bs / 2 ^ (8 * at) % 2 ^ 64
word_past bs at h past = rw (after bs at h, drop_all at bs past) refl

-- a field of a word of m bits
pub field_in_word : (n m from r w : ℕ) → r + w ≤ m → n / 2 ^ from % 2 ^ m / 2 ^ r % 2 ^ w ≡ n / 2 ^ (from + r) % 2 ^ w
field_in_word n m from r w room =
    let x : ℕ = n / 2 ^ from in
    let k : ℕ = m - r in
    let j : ℕ = k - w in
    let all : m ≡ k + r = omega arith in
    let part : k ≡ j + w = omega arith in
    ap (λ b. x % 2 ^ b / 2 ^ r % 2 ^ w) all
    ∙ (ap (λ b. b % 2 ^ w) (field_of x k r)
    ∙ (ap (λ b. x / 2 ^ r % 2 ^ b % 2 ^ w) part
    ∙ (mod-mod-pow (x / 2 ^ r) j w
    ∙ ap (λ b. b % 2 ^ w) (shr-shr n from r))))

-- one load of eight bytes has all of an item
room_in_word : (i w : ℕ) → IsTrue (is_width w) → i * w % 8 + w ≤ 64
room_in_word i w h = grind (arith, nat_tests)

-- what the code computes: a load, a shift and a mask
pub item_in_word : (bs : List ℕ) (i w mask word : ℕ) → IsTrue (is_width w) → mask ≡ 2 ^ w - 1
    → word ≡ number_of 256 bs / 2 ^ (8 * (i * w / 8)) % 2 ^ 64 → bit_and (word / 2 ^ (i * w % 8)) mask ≡ item bs w i
item_in_word bs i w mask word wide masked loaded =
    let from : 8 * (i * w / 8) + i * w % 8 ≡ i * w = omega arith in
    ap (bit_and (word / 2 ^ (i * w % 8))) masked
    ∙ (and_mask (word / 2 ^ (i * w % 8)) w
    ∙ (ap (λ n. n / 2 ^ (i * w % 8) % 2 ^ w) loaded
    ∙ (field_in_word (number_of 256 bs) 64 (8 * (i * w / 8)) (i * w % 8) w (room_in_word i w wide)
    ∙ ap (λ n. number_of 256 bs / 2 ^ n % 2 ^ w) from)))
