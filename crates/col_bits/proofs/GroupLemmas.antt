-- Items of groups of eight, and the places of bits that are set.
use Rattle.std.proofs.Common.{◌≡◌, ℕ, zero, suc, ◌+◌, ◌-◌, ◌*◌, ◌/◌, ◌%◌, ◌^◌, ◌<◌, ◌≤◌, Bool, true, false, cond, eqb, List, [], ◌∷◌, ◌++◌, map, length, get_or, take, set, refl, sym, ◌∙◌, ap, arith, bit_and, IsTrue, min, mod-eq_of_lt, pow-suc, nat_le, lit<, lt_of_lt_of_le, append_assoc}
use Rattle.std.proofs.lemmas.Bool.Decides.{nat_tests}
use Rattle.std.proofs.Math.Pow.{pow-lt}
use Rattle.std.proofs.Math.Nat.{mul-le-mul_right}
use Rattle.std.proofs.lemmas.Nat.{mod_below, pow_pos}
use Rattle.std.proofs.lemmas.List.{take_more_set, map-append}
use Rattle.std.proofs.lemmas.List.FromFn.{map-range_with_len_more}
use native.Mathlib.Nat.{pow-le-pow_right, pow-zero}
use Rattle.std.specs.Int.{is_in_range}
use Rattle.std.specs.Int.Count.{count_trailing_zeros}
use Rattle.std.specs.Int.Bits.{and_step, and_self}
use Rattle.std.specs.List.{range_with_len, filter}
use Rattle.std.specs.Simd.Lanes.{mask_l}
use Rattle.col_bits.specs.Packed.{number_of, is_width, item, items, ids_between}
use Rattle.col_bits.specs.Places.{set_places}
use Rattle.col_bits.proofs.WordLemmas.{item_in_word}
use Rattle.col_bits.proofs.ItemLemmas.{items_more, range_parts}

-- a width up to 56 is one of a packed list
narrow : (w : ℕ) → w ≤ 56 → IsTrue (is_width w)
narrow w h = grind (arith, nat_tests)

-- the mask of a width, as the code has it
pub mask_is : (w : ℕ) → w ≤ 56 → 1 * 2 ^ w % 18446744073709551616 - 1 ≡ 2 ^ w - 1
mask_is w h =
    let below : w < 64 = omega arith in
    let small : 2 ^ w < 2 ^ 64 = pow-lt below in
    let one : 1 * 2 ^ w ≡ 2 ^ w = omega arith in
    ap (λ n. n % 18446744073709551616 - 1) one ∙ ap (λ n. n - 1) (mod-eq_of_lt small)

-- what the code computes of number k of group g
pub item_in_group : (bs : List ℕ) (g k w word : ℕ) → w ≤ 56
    → word ≡ number_of 256 bs / 2 ^ (8 * (g * w + k * w / 8)) % 2 ^ 64
    → bit_and (word / 2 ^ (k * w % 8)) (1 * 2 ^ w % 18446744073709551616 - 1) ≡ item bs w (8 * g + k)
item_in_group bs g k w word h loaded =
    let whole : (8 * g + k) * w ≡ 8 * (g * w) + k * w = omega arith in
    let byte : (8 * g + k) * w / 8 ≡ g * w + k * w / 8 = omega (arith, whole) in
    let bit : (8 * g + k) * w % 8 ≡ k * w % 8 = omega (arith, whole) in
    ap (λ r. bit_and (word / 2 ^ r) (1 * 2 ^ w % 18446744073709551616 - 1)) (sym bit)
    ∙ item_in_word bs (8 * g + k) w _ word (narrow w h) (mask_is w h)
    (loaded ∙ ap (λ b. number_of 256 bs / 2 ^ (8 * b) % 2 ^ 64) (sym byte))

-- one number more of a group is decoded
pub decoded_more : (bytes : List ℕ) (w group g k j x : ℕ) (out : List ℕ) → 8 * g + k < length out
    → 8 * g + k + 1 ≡ j → x ≡ item bytes w (8 * (group + g) + k)
    → take (8 * g + k) out ≡ items bytes w (8 * group) (8 * g + k)
    → take j (set out (8 * g + k) x) ≡ items bytes w (8 * group) j
decoded_more bytes w group g k j x out within next value so_far =
    let place : 8 * (group + g) + k ≡ 8 * group + (8 * g + k) = omega arith in
    ap (λ n. take n (set out (8 * g + k) x)) (sym next)
    ∙ (items_more bytes w (8 * group) (8 * g + k) x out within (value ∙ ap (item bytes w) place) so_far
    ∙ ap (items bytes w (8 * group)) next)

-- one comparison for both ends
pub one_test : (low span v : ℕ) → low + span < 2 ^ 32 → v < 2 ^ 32
    → nat_le ((v + (2 ^ 32 - low)) % 2 ^ 32) span ≡ is_in_range low (low + span) v
one_test low span v h k = grind (arith, nat_tests)

-- with the lower end taken off, at 32 bits, one comparison says which numbers are in a range
pub one_test_each : (low span : ℕ) (vs : List ℕ) → low + span < 2 ^ 32 → ((i : ℕ) → get_or vs i 0 < 2 ^ 32)
    → map (λ v. nat_le v span) (map (λ v. (v + (2 ^ 32 - low)) % 2 ^ 32) vs) ≡ map (is_in_range low (low + span)) vs
one_test_each low span [] h all = refl
one_test_each low span (v ∷ vs) h all =
    let first = one_test low span v h (all 0) in
    let later = one_test_each low span vs h (λ i. all (suc i)) in
    λ i. first i ∷ later i

-- taking one off clears the lowest bit where it is set
odd : (n : ℕ) → n % 2 ≡ 1 → bit_and n (n - 1) ≡ n / 2 * 2
odd n h =
    let half : (n - 1) / 2 ≡ n / 2 = omega arith in
    let low : (n - 1) % 2 ≡ 0 = omega arith in
    and_step n (n - 1) ∙ (ap (λ m. bit_and (n / 2) m * 2 + min (n % 2) ((n - 1) % 2)) half
    ∙ (ap (λ m. bit_and (n / 2) (n / 2) * 2 + min (n % 2) m) low
    ∙ ap (λ m. m * 2 + min (n % 2) 0) (and_self (n / 2)) ∙ omega arith))

-- and else what it clears in the half
even : (n : ℕ) → n % 2 ≡ 0 → 0 < n → bit_and n (n - 1) ≡ bit_and (n / 2) (n / 2 - 1) * 2
even n h some =
    let half : (n - 1) / 2 ≡ n / 2 - 1 = omega arith in
    and_step n (n - 1) ∙ (ap (λ m. bit_and (n / 2) m * 2 + min (n % 2) ((n - 1) % 2)) half ∙ omega (arith, h))

-- no bit is set
pub set_places-none : (k a : ℕ) → set_places k a 0 ≡ []
unfolding set_places
set_places-none zero a = refl
set_places-none (suc k) a = set_places-none k (a + 1)

-- a number whose lowest bit is not set, and one whose lowest bit is
shifted : (k a m n : ℕ) → n ≡ m * 2 → set_places (suc k) a n ≡ set_places k (a + 1) m
unfolding set_places
shifted k a m n e =
    let low : n % 2 ≡ 0 = omega arith in
    let half : n / 2 ≡ m = omega arith in
    rw low (ap (set_places k (a + 1)) half)

with_first : (k a m n : ℕ) → n ≡ m * 2 + 1 → set_places (suc k) a n ≡ a ∷ set_places k (a + 1) m
unfolding set_places
with_first k a m n e =
    let low : n % 2 ≡ 1 = omega arith in
    let half : n / 2 ≡ m = omega arith in
    rw low (ap (λ p. a ∷ set_places k (a + 1) p) half)

-- a number whose lowest bit is not set has one zero more below its lowest 1 than its half
pub zeros_even : (k n m : ℕ) → n ≡ m * 2 → count_trailing_zeros (suc k) n ≡ suc (count_trailing_zeros k m)
unfolding count_trailing_zeros
zeros_even k n m e =
    let low : n % 2 ≡ 0 = omega arith in
    let half : n / 2 ≡ m = omega arith in
    rw (low, half) refl

-- a number whose lowest bit is set has none
pub zeros_odd : (k n : ℕ) → n % 2 ≡ 1 → count_trailing_zeros (suc k) n ≡ 0
unfolding count_trailing_zeros
zeros_odd k n e = rw e refl

-- where a bit is set, the lowest comes first, and the others are those without it
first_by : (k a n : ℕ) (b : Bool) → eqb (n % 2) 1 ≡ b → 0 < n
    → (n % 2 ≡ 0 → set_places k (a + 1) (n / 2)
    ≡ (a + 1 + count_trailing_zeros k (n / 2)) ∷ set_places k (a + 1) (bit_and (n / 2) (n / 2 - 1)))
    → set_places (suc k) a n ≡ (a + count_trailing_zeros (suc k) n) ∷ set_places (suc k) a (bit_and n (n - 1))
first_by k a n true e some later =
    let one : n % 2 ≡ 1 = grind (arith, nat_tests) in
    let place : a + count_trailing_zeros (suc k) n ≡ a = omega (arith, zeros_odd k n one) in
    with_first k a (n / 2) n (omega arith)
    ∙ (ap (λ xs. a ∷ xs) (sym (shifted k a (n / 2) (bit_and n (n - 1)) (odd n one)))
    ∙ ap (λ x. x ∷ set_places (suc k) a (bit_and n (n - 1))) (sym place))
first_by k a n false e some later =
    let none : n % 2 ≡ 0 = grind (arith, nat_tests) in
    let place : a + count_trailing_zeros (suc k) n ≡ a + 1 + count_trailing_zeros k (n / 2) =
    omega (arith, zeros_even k n (n / 2) (omega arith)) in
    shifted k a (n / 2) n (omega arith)
    ∙ (later none
    ∙ (ap (λ x. x ∷ set_places k (a + 1) (bit_and (n / 2) (n / 2 - 1))) (sym place)
    ∙ ap (λ xs. (a + count_trailing_zeros (suc k) n) ∷ xs)
    (sym (shifted k a (bit_and (n / 2) (n / 2 - 1)) (bit_and n (n - 1)) (even n none some)))))

-- the first place of a set bit is the count of the zeros below it, and the others are those of the
-- rest
pub set_places-first : (k a n : ℕ) → 0 < n → n < 2 ^ k
    → set_places k a n ≡ (a + count_trailing_zeros k n) ∷ set_places k a (bit_and n (n - 1))
set_places-first zero a n some below = absurd (let b : n < 1 = rw (pow-zero 2) at below in omega arith)
set_places-first (suc k) a n some below =
    let room : n < 2 ^ k * 2 = rw (pow-suc 2 k) at below in
    first_by k a n (eqb (n % 2) 1) refl some (λ none. set_places-first k (a + 1) (n / 2) (omega arith) (omega (arith, room)))

-- the first test passes, or doesn't
mask_by : (f : ℕ → ℕ) (p : ℕ → Bool) (k a : ℕ) (b : Bool)
    → set_places k (a + 1) (mask_l (map p (map f (range_with_len (a + 1) k))))
    ≡ filter (λ id. p (f id)) (range_with_len (a + 1) k)
    → set_places (suc k) a (cond b 1 0 + 2 * mask_l (map p (map f (range_with_len (a + 1) k))))
    ≡ cond b (a ∷ filter (λ id. p (f id)) (range_with_len (a + 1) k))
    (filter (λ id. p (f id)) (range_with_len (a + 1) k))
mask_by f p k a true later = with_first k a (mask_l (map p (map f (range_with_len (a + 1) k)))) _ (omega arith) ∙ ap (λ xs. a ∷ xs) later
mask_by f p k a false later = shifted k a (mask_l (map p (map f (range_with_len (a + 1) k)))) _ (omega arith) ∙ later

-- bits for tests of items are set where the items pass
pub set_places-mask : (f : ℕ → ℕ) (p : ℕ → Bool) (k a : ℕ)
    → set_places k a (mask_l (map p (map f (range_with_len a k)))) ≡ filter (λ id. p (f id)) (range_with_len a k)
set_places-mask f p zero a = set_places-none 0 a
set_places-mask f p (suc k) a = mask_by f p k a (p (f a)) (set_places-mask f p k (a + 1))

-- the places of the bits for a block's numbers are the ids in the range
pub places_of_block : (bytes block : List ℕ) (w low high a bits : ℕ) → block ≡ items bytes w a 64
    → bits ≡ mask_l (map (is_in_range low high) block) → set_places 64 a bits ≡ ids_between bytes w low high a 64
unfolding ids_between
places_of_block bytes block w low high a bits decoded masked =
    ap (set_places 64 a) (masked ∙ ap (λ xs. mask_l (map (is_in_range low high) xs)) decoded)
    ∙ set_places-mask (item bytes w) (is_in_range low high) 64 a

-- not more places than bits
room_by : (k a : ℕ) (later : List ℕ) (b : Bool) → length later ≤ k → length (cond b (a ∷ later) later) ≤ suc k
room_by k a later true h = omega arith
room_by k a later false h = omega arith

-- among k bits at most k are set
pub places-room : (k a n : ℕ) → length (set_places k a n) ≤ k
unfolding set_places
places-room zero a n = omega arith
places-room (suc k) a n = room_by k a (set_places k (a + 1) (n / 2)) (eqb (n % 2) 1) (places-room k (a + 1) (n / 2))

-- a block within the ids that have room behind them
pub room_for_block : (start word count w long : ℕ) → start % 8 ≡ 0 → word * 64 + 64 ≤ count
    → (start + count) * w / 8 + 8 ≤ long → ((start + word * 64) / 8 + 8) * w + 8 ≤ long
room_for_block start word count w long aligned within room =
    let q : ℕ = (start + word * 64) / 8 + 8 in
    let most : 8 * q ≤ start + count = omega arith in
    let scaled : 8 * q * w ≤ (start + count) * w = mul-le-mul_right w most in
    omega (arith, scaled)

-- an item of at most 32 bits is below 2 ^ 32
pub item_fits : (bytes : List ℕ) (w i : ℕ) → w ≤ 32 → item bytes w i < 2 ^ 32
item_fits bytes w i h =
    lt_of_lt_of_le (mod_below (number_of 256 bytes / 2 ^ (i * w)) (2 ^ w) (pow_pos w))
    (pow-le-pow_right {n = 2} (lit< tt) {i = w} {j = 32} h)

-- one number more of a group is written
pub read_more : (bytes : List ℕ) (w group g k i j x : ℕ) (front out : List ℕ) → i < length out → 8 * g + k + 1 ≡ j
    → x ≡ item bytes w (8 * (group + g) + k) → take i out ≡ front ++ items bytes w (8 * group) (8 * g + k)
    → take (i + 1) (set out i x) ≡ front ++ items bytes w (8 * group) j
read_more bytes w group g k i j x front out within next value so_far =
    let place : 8 * (group + g) + k ≡ 8 * group + (8 * g + k) = omega arith in
    let done : List ℕ = items bytes w (8 * group) (8 * g + k) in
    take_more_set out i x within
    ∙ (ap (λ xs. xs ++ x ∷ []) so_far
    ∙ (append_assoc front done (x ∷ [])
    ∙ ap (λ xs. front ++ xs) (ap (λ y. done ++ y ∷ []) (value ∙ ap (item bytes w) place)
    ∙ (sym (map-range_with_len_more (item bytes w) (8 * group) (8 * g + k) (8 * group + (8 * g + k)) refl)
    ∙ ap (items bytes w (8 * group)) next))))

-- whole groups within the numbers that have room behind them
pub room_for_groups : (n m w long : ℕ) → 8 * n ≤ m → m * w / 8 + 8 ≤ long → n * w + 8 ≤ long
room_for_groups n m w long most room =
    let scaled : 8 * n * w ≤ m * w = mul-le-mul_right w most in
    omega (arith, scaled)

-- numbers in two parts
pub items_joined : (bytes : List ℕ) (v w a n m b k : ℕ) (front out : List ℕ) → v ≡ w → a + n ≡ b → n + m ≡ k
    → front ≡ items bytes w a n → out ≡ front ++ items bytes v b m → out ≡ items bytes w a k
items_joined bytes v w a n m b k front out seen at whole first later =
    later
    ∙ (ap (λ u. front ++ items bytes u b m) seen
    ∙ (ap (λ xs. xs ++ items bytes w b m) first
    ∙ (ap (λ c. items bytes w a n ++ items bytes w c m) (sym at)
    ∙ (sym (ap (map (item bytes w)) (range_parts a n m) ∙ map-append (item bytes w) (range_with_len a n) (range_with_len (a + n) m))
    ∙ ap (items bytes w a) whole))))
