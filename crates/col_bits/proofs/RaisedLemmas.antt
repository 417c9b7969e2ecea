-- Numbers that are compared together with the bits below them in their first byte.
use Rattle.std.proofs.Common.{◌≡◌, ℕ, zero, suc, ◌+◌, ◌-◌, ◌*◌, ◌/◌, ◌%◌, ◌^◌, ◌<◌, ◌≤◌, Bool, true, false, leb, List, [], ◌∷◌, ◌&&◌, map, bit_and, sym, ◌∙◌, ap, refl, arith, mul-le-mul_right, mul-lt-mul_of_pos_right, add-mul, pow-add, suc-mul, lit<, IsTrue, ◌⊎◌, inl, inr, mod-eq_of_lt}
use Rattle.std.proofs.lemmas.Bool.Decides.{nat_tests}
use Rattle.std.proofs.lemmas.Nat.{pow_pos, mod_below}
use native.Mathlib.Nat.{pow-le-pow_right}
use lib.Bits.{and_high}
use Rattle.std.specs.Int.{is_in_range}
use Rattle.std.specs.List.{range_with_len}
use Rattle.std.specs.Prelude.{nat_le}
use Rattle.col_bits.specs.Places.{is_raised_width}
use Rattle.col_bits.specs.Packed.{number_of, item}
use Rattle.col_bits.proofs.WordLemmas.{field_in_word}
use Rattle.col_bits.proofs.GroupLemmas.{one_test}

-- ---- widths

-- such a width is one of these
width_cases : (w : ℕ) → IsTrue (is_raised_width w) → (w ≤ 25) ⊎ ((w ≡ 26) ⊎ (w ≡ 28))
width_cases w h = grind (arith, nat_tests)

-- the same fact for each of them
raised_by : (w k : ℕ) → (w ≤ 25) ⊎ ((w ≡ 26) ⊎ (w ≡ 28)) → k * w % 8 + w ≤ 32
raised_by w k (inl h) = omega arith
raised_by w k (inr (inl e)) = let at : k * w ≡ k * 26 = ap (λ m. k * m) e in omega (arith, at, e)
raised_by w k (inr (inr e)) = let at : k * w ≡ k * 28 = ap (λ m. k * m) e in omega (arith, at, e)

-- a number of such a width has at most 32 bits together with those below it in its first byte
pub has_32 : (w k : ℕ) → IsTrue (is_raised_width w) → k * w % 8 + w ≤ 32
has_32 w k h = raised_by w k (width_cases w h)

-- such a width is at most 32
pub most_32 : (w : ℕ) → IsTrue (is_raised_width w) → w ≤ 32
most_32 w h = grind (arith, nat_tests)

-- ---- one comparison of numbers that are moved up

-- the order of two numbers is that of their products with a third
le_raised : (a b p : ℕ) → 0 < p → nat_le (a * p) (b * p) ≡ nat_le a b
le_raised a b p h = by_order (leb a b) refl
  where
    by_order : (t : Bool) → leb a b ≡ t → nat_le (a * p) (b * p) ≡ t
    by_order true e =
        let le : a ≤ b = grind (arith, nat_tests) in
        let scaled : a * p ≤ b * p = mul-le-mul_right p le in
        grind (arith, nat_tests)
    by_order false e =
        let lt : b < a = grind (arith, nat_tests) in
        let scaled : b * p < a * p = mul-lt-mul_of_pos_right lt h in
        grind (arith, nat_tests)

-- a number that is moved up stays below 2 ^ 32
below_32 : (v w u : ℕ) → v < 2 ^ w → w + u ≤ 32 → v * 2 ^ u < 2 ^ 32
below_32 v w u small fits =
    let scaled : v * 2 ^ u < 2 ^ w * 2 ^ u = mul-lt-mul_of_pos_right small (pow_pos u) in
    let power : 2 ^ w * 2 ^ u ≡ 2 ^ (w + u) = sym (pow-add 2 w u) in
    let most : 2 ^ (w + u) ≤ 2 ^ 32 = pow-le-pow_right {n = 2} (lit< tt) {i = w + u} {j = 32} fits in
    omega (arith, scaled, power, most)

-- the comparison of numbers that are moved up is that of the numbers
raised_test : (low span v w u : ℕ) → v < 2 ^ w → low + span < 2 ^ w → w + u ≤ 32
    → nat_le ((v * 2 ^ u + (2 ^ 32 - low * 2 ^ u)) % 2 ^ 32) (span * 2 ^ u) ≡ is_in_range low (low + span) v
raised_test low span v w u small range fits =
    let sum : (low + span) * 2 ^ u ≡ low * 2 ^ u + span * 2 ^ u = add-mul low span (2 ^ u) in
    let ends : low * 2 ^ u + span * 2 ^ u < 2 ^ 32 = omega (arith, sum, below_32 (low + span) w u range fits) in
    one_test (low * 2 ^ u) (span * 2 ^ u) (v * 2 ^ u) ends (below_32 v w u small fits)
    ∙ (ap (λ h. is_in_range (low * 2 ^ u) h (v * 2 ^ u)) (sym sum)
    ∙ (ap (λ t. t && nat_le (v * 2 ^ u) ((low + span) * 2 ^ u)) (le_raised low v (2 ^ u) (pow_pos u))
    ∙ ap (λ t. nat_le low v && t) (le_raised v (low + span) (2 ^ u) (pow_pos u))))

-- the test of a lane is that of its number
pub lane_test : (bs : List ℕ) (w group k low span : ℕ) → IsTrue (is_raised_width w) → low + span < 2 ^ w
    → nat_le ((item bs w (8 * group + k) * 2 ^ (k * w % 8) + (2 ^ 32 - low * 2 ^ (k * w % 8))) % 2 ^ 32) (span * 2 ^ (k * w % 8))
    ≡ is_in_range low (low + span) (item bs w (8 * group + k))
lane_test bs w group k low span narrow range =
    let small = mod_below (number_of 256 bs / 2 ^ ((8 * group + k) * w)) (2 ^ w) (pow_pos w) in
    raised_test low span (item bs w (8 * group + k)) w (k * w % 8) small range (omega (arith, has_32 w k narrow))

-- ---- a number where it stands

-- a product with one less
ones_raised : (q p : ℕ) → 0 < q → (q - 1) * p ≡ q * p - p
ones_raised zero p h = absurd (omega arith)
ones_raised (suc q) p h =
    let one : suc q - 1 ≡ q = omega arith in
    let e : suc q * p ≡ q * p + p = suc-mul q p in
    ap (λ m. m * p) one ∙ omega (arith, e)

-- the mask of a width, moved up
mask_raised : (w u : ℕ) → (2 ^ w - 1) * 2 ^ u ≡ 2 ^ (w + u) - 2 ^ u
mask_raised w u = ones_raised (2 ^ w) (2 ^ u) (pow_pos w) ∙ ap (λ q. q - 2 ^ u) (sym (pow-add 2 w u))

-- what the mask keeps of the 32 bits from a number's first byte on is the number, moved up
pub item_raised : (bs : List ℕ) (w group k : ℕ) → IsTrue (is_raised_width w)
    → bit_and (number_of 256 bs / 2 ^ (8 * (group * w + k * w / 8)) % 2 ^ 32) ((2 ^ w - 1) * 2 ^ (k * w % 8))
    ≡ item bs w (8 * group + k) * 2 ^ (k * w % 8)
item_raised bs w group k narrow =
    let n : ℕ = number_of 256 bs in
    let u : ℕ = k * w % 8 in
    let from : ℕ = 8 * (group * w + k * w / 8) in
    let whole : (8 * group + k) * w ≡ 8 * (group * w) + k * w = omega arith in
    let at : from + u ≡ (8 * group + k) * w = omega (arith, whole) in
    let room : u + w ≤ 32 = has_32 w k narrow in
    ap (bit_and (n / 2 ^ from % 2 ^ 32)) (mask_raised w u)
    ∙ (and_high (n / 2 ^ from % 2 ^ 32) w u
    ∙ (ap (λ m. m * 2 ^ u) (field_in_word n 32 from u w room)
    ∙ ap (λ m. n / 2 ^ m % 2 ^ w * 2 ^ u) at))

-- a number, moved up for four lanes
pub raised_four : (number w from : ℕ) → number < 2 ^ w → IsTrue (is_raised_width w)
    → number * 2 ^ (from * w % 8) % 2 ^ 32 ∷ number * 2 ^ ((from + 1) * w % 8) % 2 ^ 32
    ∷ number * 2 ^ ((from + 2) * w % 8) % 2 ^ 32 ∷ number * 2 ^ ((from + 3) * w % 8) % 2 ^ 32 ∷ []
    ≡ map (λ k. number * 2 ^ (k * w % 8)) (range_with_len from 4)
raised_four number w from small narrow =
    let one : (j k : ℕ) → j ≡ k → number * 2 ^ (j * w % 8) % 2 ^ 32 ≡ number * 2 ^ (k * w % 8) =
    λ j k e. mod-eq_of_lt (below_32 number w (j * w % 8) small (omega (arith, has_32 w j narrow)))
    ∙ ap (λ m. number * 2 ^ (m * w % 8)) e in
    let e0 = one from from refl in
    let e1 = one (from + 1) (from + 1) refl in
    let e2 = one (from + 2) (from + 1 + 1) (omega arith) in
    let e3 = one (from + 3) (from + 1 + 1 + 1) (omega arith) in
    λ i. e0 i ∷ e1 i ∷ e2 i ∷ e3 i ∷ []
