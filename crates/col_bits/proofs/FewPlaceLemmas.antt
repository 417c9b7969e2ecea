-- Two places at most, of which both are written.
use Rattle.std.proofs.Common.{◌≡◌, ℕ, zero, suc, ◌+◌, ◌-◌, ◌/◌, ◌%◌, ◌^◌, ◌<◌, ◌≤◌, List, [], ◌∷◌, ◌++◌, length, take, sym, ◌∙◌, ap, arith, append_assoc, mod-eq_of_lt, pow-suc, set, append-nil, length-set, bit_and, eq-zero-or-pos, inl, inr, ◌⊎◌}
use lib.Count.{ones}
use lib.Bits.{and_le_l}
use Rattle.std.proofs.lemmas.List.{take-take, take-set, take_more_set, nil_from_length}
use Rattle.std.specs.Int.Count.{count_trailing_zeros}
use Rattle.col_bits.specs.Places.{set_places}
use Rattle.col_bits.proofs.GroupLemmas.{set_places-first, set_places-none, zeros_even, zeros_odd}
use Rattle.col_bits.proofs.PlaceLemmas.{places_ones}

-- of two items that are written none is kept
none_by : (x y : ℕ) (out : List ℕ) (at : ℕ) → take at (set (set out at x) (at + 1) y) ≡ take at out
none_by x y out at =
    sym (take-take at (at + 1) (set (set out at x) (at + 1) y) (omega arith))
    ∙ (ap (take at) (take-set (set out at x) (at + 1) y)
    ∙ (take-take at (at + 1) (set out at x) (omega arith) ∙ take-set out at x))

-- the first is
one_by : (x y : ℕ) (xs rest out : List ℕ) (at : ℕ) → xs ≡ x ∷ rest → rest ≡ [] → at + 2 ≤ length out
    → take (at + length xs) (set (set out at x) (at + 1) y) ≡ take at out ++ xs
one_by x y xs rest out at first none room =
    let one : xs ≡ x ∷ [] = first ∙ ap (λ r. x ∷ r) none in
    let count : at + length xs ≡ at + 1 = omega (arith, ap length one) in
    ap (λ n. take n (set (set out at x) (at + 1) y)) count
    ∙ (take-set (set out at x) (at + 1) y
    ∙ (take_more_set out at x (omega arith)
    ∙ ap (λ r. take at out ++ r) (sym one)))

-- both are
two_by : (x y : ℕ) (xs rest out : List ℕ) (at : ℕ) → xs ≡ x ∷ y ∷ rest → rest ≡ [] → at + 2 ≤ length out
    → take (at + length xs) (set (set out at x) (at + 1) y) ≡ take at out ++ xs
two_by x y xs rest out at first none room =
    let both : xs ≡ x ∷ y ∷ [] = first ∙ ap (λ r. x ∷ y ∷ r) none in
    let count : at + length xs ≡ at + 1 + 1 = omega (arith, ap length both) in
    let long : at + 1 < length (set out at x) = omega (arith, length-set out at x) in
    ap (λ n. take n (set (set out at x) (at + 1) y)) count
    ∙ (take_more_set (set out at x) (at + 1) y long
    ∙ (ap (λ r. r ++ y ∷ []) (take_more_set out at x (omega arith))
    ∙ (append_assoc (take at out) (x ∷ []) (y ∷ [])
    ∙ ap (λ r. take at out ++ r) (sym both))))

-- what the code computes of the bits of a word: those without the lowest, and where both begin
pub record AreFew (base bits later x y : ℕ) : Type 0 where
  pub small : bits < 2 ^ 64
  pub few : length (set_places 64 base bits) ≤ 2
  pub rest : 0 < bits → later ≡ bit_and bits (bits - 1)
  pub first : 0 < bits → x ≡ base + count_trailing_zeros 64 bits
  pub second : 0 < later → y ≡ base + count_trailing_zeros 64 later

-- some bit is set
later_by : (base bits later x y at : ℕ) (out : List ℕ) → AreFew base bits later x y → 0 < bits → at + 2 ≤ length out
    → (later ≡ 0) ⊎ (0 < later)
    → take (at + length (set_places 64 base bits)) (set (set out at x) (at + 1) y) ≡ take at out ++ set_places 64 base bits
later_by base bits later x y at out w some room (inl z) =
    let others : List ℕ = set_places 64 base (bit_and bits (bits - 1)) in
    let first : set_places 64 base bits ≡ x ∷ others =
    set_places-first 64 base bits some w.small ∙ ap (λ p. p ∷ others) (sym (w.first some)) in
    let none : others ≡ [] = ap (set_places 64 base) (sym (w.rest some) ∙ z) ∙ set_places-none 64 base in
    one_by x y (set_places 64 base bits) others out at first none room
later_by base bits later x y at out w some room (inr more) =
    let others : List ℕ = set_places 64 base (bit_and later (later - 1)) in
    let below : later < 2 ^ 64 = omega (arith, w.rest some, w.small, and_le_l bits (bits - 1)) in
    let first : set_places 64 base bits ≡ x ∷ set_places 64 base later =
    set_places-first 64 base bits some w.small ∙ (λ i. sym (w.first some) i ∷ set_places 64 base (sym (w.rest some) i)) in
    let second : set_places 64 base later ≡ y ∷ others =
    set_places-first 64 base later more below ∙ ap (λ p. p ∷ others) (sym (w.second more)) in
    let both : set_places 64 base bits ≡ x ∷ y ∷ others = first ∙ ap (λ r. x ∷ r) second in
    let none : length others ≡ 0 = omega (arith, ap length both, w.few) in
    two_by x y (set_places 64 base bits) others out at both (nil_from_length others none) room

-- no bit is set, or some
bits_by : (base bits later x y at : ℕ) (out : List ℕ) → AreFew base bits later x y → at + 2 ≤ length out
    → (bits ≡ 0) ⊎ (0 < bits)
    → take (at + length (set_places 64 base bits)) (set (set out at x) (at + 1) y) ≡ take at out ++ set_places 64 base bits
bits_by base bits later x y at out w room (inl z) =
    let none : set_places 64 base bits ≡ [] = ap (set_places 64 base) z ∙ set_places-none 64 base in
    let count : at + length (set_places 64 base bits) ≡ at = omega (arith, ap length none) in
    ap (λ n. take n (set (set out at x) (at + 1) y)) count
    ∙ (none_by x y out at
    ∙ (sym (append-nil (take at out)) ∙ ap (λ r. take at out ++ r) (sym none)))
bits_by base bits later x y at out w room (inr some) = later_by base bits later x y at out w some room (eq-zero-or-pos later)

-- two places are written, and as many as bits are set are kept
pub few_places : (base bits later x y at m : ℕ) (out : List ℕ) → AreFew base bits later x y → at + 2 ≤ length out
    → m ≡ at + ones bits → take m (set (set out at x) (at + 1) y) ≡ take at out ++ set_places 64 base bits
few_places base bits later x y at m out w room counted =
    let end : m ≡ at + length (set_places 64 base bits) = omega (arith, places_ones 64 base bits w.small, counted) in
    ap (λ n. take n (set (set out at x) (at + 1) y)) end ∙ bits_by base bits later x y at out w room (eq-zero-or-pos bits)

-- the lowest bit is not set, or is
zeros_by : (k n : ℕ) → (n % 2 ≡ 0 → count_trailing_zeros k (n / 2) < k) → (n % 2 ≡ 0) ⊎ (0 < n % 2)
    → count_trailing_zeros (suc k) n < suc k
zeros_by k n later (inl even) = omega (arith, zeros_even k n (n / 2) (omega arith), later even)
zeros_by k n later (inr odd) = omega (arith, zeros_odd k n (omega arith))

-- where a bit is set, fewer than all are below it
zeros_below : (k n : ℕ) → 0 < n → n < 2 ^ k → count_trailing_zeros k n < k
zeros_below zero n some small = absurd (omega arith)
zeros_below (suc k) n some small =
    zeros_by k n (λ even. zeros_below k (n / 2) (omega arith) (omega (arith, pow-suc 2 k, small))) (eq-zero-or-pos (n % 2))

-- the place of a bit that is set, counted from a base, has 32 bits
pub place_fits : (base n : ℕ) → base + 64 ≤ 2 ^ 32 → n < 2 ^ 64 → 0 < n
    → (base + count_trailing_zeros 64 n) % 2 ^ 32 ≡ base + count_trailing_zeros 64 n
place_fits base n fits small some = mod-eq_of_lt (omega (arith, fits, zeros_below 64 n some small))

-- the subtraction that wraps takes one off
pub less_one : (n : ℕ) → 0 < n → n < 2 ^ 64 → (n + 18446744073709551615) % 18446744073709551616 ≡ n - 1
less_one n some small = omega arith
