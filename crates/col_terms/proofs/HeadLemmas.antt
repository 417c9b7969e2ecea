-- The order of byte lists, by their first bytes as numbers.
use Rattle.std.proofs.Common.{◌≡◌, ℕ, zero, suc, ◌+◌, ◌*◌, ◌^◌, ◌<◌, ◌≤◌, ◌≢◌, List, [], ◌∷◌, drop, get_or, pow-suc, refl, sym, ap, ◌∙◌, inl, inr, arith}
use Rattle.std.specs.declared.cmp.Ordering.{Ordering}
use Rattle.std.specs.declared.cmp.Ordering.TheVariants.{Less, Equal, Greater}
use Rattle.std.specs.Int.{w64, from_be_bytes}
use Rattle.std.specs.Ordering.{nat_cmp, ordering_then}
use Rattle.std.specs.Cmp.Lexicographic.{slice_cmp}
use Rattle.std.proofs.lemmas.Bool.{le-ltb, eq-eqb, cases_order}
use Rattle.std.proofs.Math.Nat.{mul-le-mul_left}
use Rattle.std.proofs.lemmas.Map.Lookups.{exact_unsigned}
use Rattle.col_common.specs.Reading.{IsBytes}
use Rattle.col_terms.specs.TermTable.{highest_first}
use Rattle.col_model.proofs.OrderingLaws.{nat_cmp-less, nat_cmp-greater}

-- equal numbers compare as equal
pub cmp_same : (a b : ℕ) → a ≡ b → nat_cmp a b ≡ Equal
cmp_same a b e = rw (le-ltb a b (omega arith), eq-eqb a b e) refl

-- ---- a first byte and a number behind it

shifted : (c x y : ℕ) → nat_cmp (c + x) (c + y) ≡ nat_cmp x y
shifted c x y =
    elim (cases_order x y) [
      | inl same ↦ cmp_same (c + x) (c + y) (ap (λ n. c + n) same) ∙ sym (cmp_same x y same)
      | inr apart ↦ elim apart [
        | inl below ↦ nat_cmp-less (c + x) (c + y) (omega arith) ∙ sym (nat_cmp-less x y below)
        | inr above ↦ nat_cmp-greater (c + x) (c + y) (omega arith) ∙ sym (nat_cmp-greater x y above)
      ]
    ]

lower_part : (m a b x y : ℕ) → x < m → a < b → a * m + x < b * m + y
lower_part m a b x y h k = omega (arith, mul-le-mul_left m (let next : a + 1 ≤ b = omega arith in next))

-- numbers of a high part and a low part compare by the high parts first
by_parts : (m a b x y : ℕ) → x < m → y < m → nat_cmp (a * m + x) (b * m + y) ≡ ordering_then (nat_cmp a b) (nat_cmp x y)
by_parts m a b x y h k =
    elim (cases_order a b) [
      | inl same ↦
          ap (λ c. nat_cmp (c * m + x) (b * m + y)) same ∙ shifted (b * m) x y
          ∙ sym (ap (λ o. ordering_then o (nat_cmp x y)) (cmp_same a b same))
      | inr apart ↦ elim apart [
        | inl below ↦ nat_cmp-less (a * m + x) (b * m + y) (lower_part m a b x y h below)
            ∙ sym (ap (λ o. ordering_then o (nat_cmp x y)) (nat_cmp-less a b below))
        | inr above ↦ nat_cmp-greater (a * m + x) (b * m + y) (lower_part m b a y x k above)
            ∙ sym (ap (λ o. ordering_then o (nat_cmp x y)) (nat_cmp-greater a b above))
      ]
    ]

power_pos : (n : ℕ) → 0 < 256 ^ n
power_pos zero = omega arith
power_pos (suc n) = omega (arith, pow-suc 256 n, power_pos n)

below_power : (n : ℕ) (bytes : List ℕ) → IsBytes bytes → highest_first n bytes < 256 ^ n
unfolding highest_first
below_power zero bytes all = omega arith
below_power (suc n) [] all = power_pos (suc n)
below_power (suc n) (b ∷ bytes) all =
    let rest = below_power n bytes (λ i. all (suc i)) in
    let byte : b ≤ 255 = omega (arith, all 0) in
    let power : 256 ^ suc n ≡ 256 * 256 ^ n = omega (arith, pow-suc 256 n) in
    omega (arith, mul-le-mul_left (256 ^ n) byte)

then_twice : (o p q : Ordering) → ordering_then (ordering_then o p) (ordering_then o q) ≡ ordering_then o (ordering_then p q)
then_twice Less p q = refl
then_twice Equal p q = refl
then_twice Greater p q = refl

-- a number that is at least 0 isn't below it
from_zero : (n : ℕ) → ordering_then (nat_cmp 0 n) Less ≡ Less
from_zero zero = refl
from_zero (suc n) = ap (λ o. ordering_then o Less) (nat_cmp-less 0 (suc n) (omega arith))

to_zero : (n : ℕ) → ordering_then (nat_cmp n 0) Greater ≡ Greater
to_zero zero = refl
to_zero (suc n) = ap (λ o. ordering_then o Greater) (nat_cmp-greater (suc n) 0 (omega arith))

-- the numbers decide nothing that the lists don't
pub heads_agree : (n : ℕ) (xs ys : List ℕ) → IsBytes xs → IsBytes ys
    → ordering_then (nat_cmp (highest_first n xs) (highest_first n ys)) (slice_cmp nat_cmp xs ys)
    ≡ slice_cmp nat_cmp xs ys
unfolding highest_first
heads_agree zero xs ys a b = refl
heads_agree (suc n) [] [] a b = refl
heads_agree (suc n) [] (y ∷ ys) a b = from_zero (y * 256 ^ n + highest_first n ys)
heads_agree (suc n) (x ∷ xs) [] a b = to_zero (x * 256 ^ n + highest_first n xs)
heads_agree (suc n) (x ∷ xs) (y ∷ ys) a b =
    let bytes : IsBytes xs = λ i. a (suc i) in
    let others : IsBytes ys = λ i. b (suc i) in
    ap (λ o. ordering_then o (ordering_then (nat_cmp x y) (slice_cmp nat_cmp xs ys))) (by_parts (256 ^ n) x y
    (highest_first n xs) (highest_first n ys) (below_power n xs bytes) (below_power n ys others))
    ∙ then_twice (nat_cmp x y) (nat_cmp (highest_first n xs) (highest_first n ys)) (slice_cmp nat_cmp xs ys)
    ∙ ap (ordering_then (nat_cmp x y)) (heads_agree n xs ys bytes others)

-- an order that isn't a tie decides
decides : (o p : Ordering) → (o ≡ Equal → ⊥) → ordering_then o p ≡ o
decides Less p h = refl
decides Equal p h = absurd (h refl)
decides Greater p h = refl

-- where the numbers differ, they decide
pub heads_decide : (n : ℕ) (xs ys : List ℕ) → IsBytes xs → IsBytes ys → highest_first n xs ≢ highest_first n ys
    → nat_cmp (highest_first n xs) (highest_first n ys) ≡ slice_cmp nat_cmp xs ys
heads_decide n xs ys a b apart =
    sym (decides (nat_cmp (highest_first n xs) (highest_first n ys)) (slice_cmp nat_cmp xs ys)
    (λ e. apart (exact_unsigned (highest_first n xs) (highest_first n ys) e)))
    ∙ heads_agree n xs ys a b

-- ---- what eight bytes spell

-- of no bytes there is nothing
empty : (k : ℕ) → drop {A = ℕ} k [] ≡ []
empty zero = refl
empty (suc k) = refl

nothing_first : (n : ℕ) → highest_first n [] ≡ 0
unfolding highest_first
nothing_first zero = refl
nothing_first (suc n) = refl

-- the number from a place on
step : (bytes : List ℕ) (k n : ℕ) → highest_first (suc n) (drop k bytes) ≡ get_or bytes k 0 * 256 ^ n + highest_first n (drop (k + 1) bytes)
unfolding highest_first
step [] k n =
    ap (highest_first (suc n)) (empty k)
    ∙ let none = nothing_first n in let rest : highest_first n (drop (k + 1) []) ≡ 0 = ap (highest_first n)
    (empty (k + 1)) ∙ none in omega (arith, rest)
step (b ∷ bytes) zero n = refl
step (b ∷ bytes) (suc k) n =
    step bytes k n ∙ ap (λ m. get_or bytes k 0 * 256 ^ n + highest_first n (drop m (b ∷ bytes)))
    (let next : suc (k + 1) ≡ suc k + 1 = omega arith in next)

-- the first eight bytes, read with the highest first, are the number that they spell, 0 past the
-- end
pub head_spelled : (bytes : List ℕ)
    → from_be_bytes w64 (get_or bytes 0 0 ∷ get_or bytes 1 0 ∷ get_or bytes 2 0 ∷ get_or bytes 3 0
    ∷ get_or bytes 4 0 ∷ get_or bytes 5 0 ∷ get_or bytes 6 0 ∷ get_or bytes 7 0 ∷ []) ≡ highest_first 8 bytes
unfolding highest_first
head_spelled bytes =
    omega (
      arith,
      step bytes 0 7,
      step bytes 1 6,
      step bytes 2 5,
      step bytes 3 4,
      step bytes 4 3,
      step bytes 5 2,
      step bytes 6 1,
      step bytes 7 0,
    )
