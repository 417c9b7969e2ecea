-- The spare bits of packed bytes.
use Rattle.std.proofs.Common.{◌≡◌, ℕ, suc, ◌+◌, ◌-◌, ◌*◌, ◌/◌, ◌%◌, ◌^◌, ◌<◌, ◌≤◌, ◌==◌, nat_lt, List, [], ◌∷◌, length, get_or, slice_index, drop, refl, sym, ◌∙◌, ap, arith, inl, inr, true, lit<, drop-cons}
use Rattle.std.specs.Int.{div_ceil}
use Rattle.std.proofs.lemmas.Nat.{pow_pos, pow-add, le-div}
use Rattle.std.proofs.lemmas.Bool.{cases_lt, lt-ltb, le-ltb, eq-eqb, ne_eqb, and_from}
use native.Mathlib.Nat.{div-lt_iff_lt-mul, div-eq_of_lt}
use Rattle.col_common.specs.Ascending.{AreBelow}
use Rattle.col_bits.specs.Packed.{number_of, is_packed}
use Rattle.col_bits.proofs.PackedLemmas.{pow-pow, number_of-below}
use Rattle.col_bits.proofs.WindowLemmas.{number_of-drop}

-- each number is a byte
abbrev AreBytes : List ℕ → Type 0
AreBytes bytes = (i : ℕ) → slice_index bytes i < 256

by_recursion : (bytes : List ℕ) → AreBytes bytes → AreBelow 256 bytes
by_recursion [] b = tt
by_recursion (c ∷ bytes) b = (b 0, by_recursion bytes (λ i. b (suc i)))

-- no bit is spare
pub nat_lt-whole : (bytes : List ℕ) (n : ℕ) → AreBytes bytes → length bytes ≡ div_ceil n 8 → n % 8 ≡ 0
    → nat_lt (number_of 256 bytes) (2 ^ n) ≡ true
nat_lt-whole bytes n b e z =
    let long : length bytes * 8 ≡ n = omega (arith, e, z) in
    let below : number_of 256 bytes < 256 ^ length bytes = number_of-below 256 bytes (lit< tt) (by_recursion bytes b) in
    let same : 256 ^ length bytes ≡ 2 ^ n = pow-pow 8 (length bytes) ∙ ap (λ m. 2 ^ m) long in
    lt-ltb (number_of 256 bytes) (2 ^ n) (rw (← same) below)

-- the spare bits are the last byte's
pub nat_lt-spare : (bytes : List ℕ) (n last : ℕ) → AreBytes bytes → length bytes ≡ div_ceil n 8 → 0 < n % 8
    → last ≡ get_or bytes (length bytes - 1) 0 → nat_lt (number_of 256 bytes) (2 ^ n) ≡ (last / 2 ^ (n % 8) == 0)
nat_lt-spare bytes n last b e p is =
    let a = length bytes - 1 in
    let r = n % 8 in
    let long : suc a ≡ length bytes = omega (arith, e, p) in
    let bits : n ≡ r + a * 8 = omega (arith, e, p) in
    let all = by_recursion bytes b in
    let behind : drop a bytes ≡ get_or bytes a 0 ∷ [] =
    drop-cons bytes a 0 (omega (arith, long)) ∙ ap (λ m. get_or bytes a 0 ∷ drop m bytes) long
    ∙ ap (λ r. get_or bytes a 0 ∷ r) (drop-length bytes) in
    let one : number_of 256 (get_or bytes a 0 ∷ []) ≡ get_or bytes a 0 = omega arith in
    let high : last ≡ number_of 256 bytes / 256 ^ a =
    is ∙ sym one ∙ sym (ap (number_of 256) behind) ∙ number_of-drop 256 bytes a (lit< tt) all in
    let top : 2 ^ n ≡ 2 ^ r * 256 ^ a = ap (λ m. 2 ^ m) bits ∙ pow-add 2 r (a * 8) ∙ ap (λ m. 2 ^ r * m) (sym (pow-pow 8 a)) in
    let room : 0 < 256 ^ a = rw (pow-pow 8 a) (pow_pos (a * 8)) in
    let tells = div-lt_iff_lt-mul {k = 256 ^ a} {x = number_of 256 bytes} {y = 2 ^ r} room in
    elim (cases_lt last (2 ^ r)) [
      | inl h ↦ lt-ltb (number_of 256 bytes) (2 ^ n) (rw top (tells.0 (rw high at h))) ∙ sym (eq-eqb (last / 2 ^ r) 0 (div-eq_of_lt h))
      | inr h ↦
          let some : 1 ≤ last / 2 ^ r = le-div 1 last (2 ^ r) (pow_pos r) (omega (arith, h)) in
          let past : 2 ^ n ≤ number_of 256 bytes = elim (cases_lt (number_of 256 bytes) (2 ^ n)) [
            | inl q ↦ absurd (let low : number_of 256 bytes / 256 ^ a < 2 ^ r = tells.1 (rw top at q) in omega (arith, low, high, h))
            | inr q ↦ q
          ] in
          le-ltb (number_of 256 bytes) (2 ^ n) past ∙ sym (ne_eqb (last / 2 ^ r) 0 (omega (arith, some)))
    ]
  where
    drop-length : (xs : List ℕ) → drop (length xs) xs ≡ []
    drop-length [] = refl
    drop-length (x ∷ xs) = drop-length xs

-- bytes that end with a whole byte of bits are packed
pub spelled-whole : (bytes : List ℕ) (n : ℕ) → AreBytes bytes → length bytes ≡ div_ceil n 8 → n % 8 ≡ 0 → (n % 8 == 0) ≡ is_packed bytes n
spelled-whole bytes n b e z = eq-eqb (n % 8) 0 z ∙ sym (and_from _ _ (eq-eqb (length bytes) (div_ceil n 8) e) (nat_lt-whole bytes n b e z))

-- bytes whose last one has bits to spare are packed where these are 0
pub spelled-spare : (bytes : List ℕ) (n : ℕ) → AreBytes bytes → length bytes ≡ div_ceil n 8 → 0 < n % 8
    → (get_or bytes (length bytes - 1) 0 / 2 ^ (n % 8) == 0) ≡ is_packed bytes n
spelled-spare bytes n b e p =
    let long : (length bytes == div_ceil n 8) ≡ true = eq-eqb (length bytes) (div_ceil n 8) e in
    rw long (sym (nat_lt-spare bytes n (get_or bytes (length bytes - 1) 0) b e p refl))
