-- Places of bits that are set, a byte at a time.
use Rattle.std.proofs.Common.{◌≡◌, ℕ, zero, suc, ◌+◌, ◌*◌, ◌/◌, ◌%◌, ◌^◌, ◌<◌, ◌≤◌, Bool, true, false, cond, eqb, List, [], ◌∷◌, ◌++◌, map, length, refl, sym, ◌∙◌, ap, arith, add-zero, zero-add, add-one, append_assoc, length-append, mod-eq_of_lt, pow-suc}
use lib.Count.{ones, ones_in, ones_step}
use Rattle.std.proofs.lemmas.Bool.Decides.{nat_tests}
use Rattle.std.proofs.lemmas.Nat.{shr-shr, field_of}
use Rattle.std.proofs.Math.Pow.{mod-mod-pow}
use Rattle.col_bits.specs.Places.{set_places}

-- a first item that may be there stands before what follows
joined : (a : ℕ) (xs ys : List ℕ) (b : Bool) → cond b (a ∷ (xs ++ ys)) (xs ++ ys) ≡ cond b (a ∷ xs) xs ++ ys
joined a xs ys true = refl
joined a xs ys false = refl

-- places of low bits, and of those above them
set_places-parts : (j k a n : ℕ) → set_places (j + k) a n ≡ set_places j a n ++ set_places k (a + j) (n / 2 ^ j)
unfolding set_places
set_places-parts zero k a n =
    let whole : n ≡ n / 2 ^ 0 = omega arith in
    ap (λ m. set_places m a n) (zero-add k)
    ∙ (ap (λ b. set_places k b n) (sym (add-zero a)) ∙ ap (set_places k (a + 0)) whole)
set_places-parts (suc j) k a n =
    let count : suc j + k ≡ suc (j + k) = omega arith in
    let place : a + 1 + j ≡ a + suc j = omega arith in
    let power : 1 + j ≡ suc j = omega arith in
    let front : List ℕ = set_places j (a + 1) (n / 2) in
    let rest : n / 2 / 2 ^ j ≡ n / 2 ^ suc j = shr-shr n 1 j ∙ ap (λ m. n / 2 ^ m) power in
    let later : set_places (j + k) (a + 1) (n / 2) ≡ front ++ set_places k (a + suc j) (n / 2 ^ suc j) =
    set_places-parts j k (a + 1) (n / 2)
    ∙ (ap (λ b. front ++ set_places k b (n / 2 / 2 ^ j)) place ∙ ap (λ m. front ++ set_places k (a + suc j) m) rest) in
    ap (λ m. set_places m a n) count
    ∙ (ap (λ xs. cond (eqb (n % 2) 1) (a ∷ xs) xs) later
    ∙ joined a front (set_places k (a + suc j) (n / 2 ^ suc j)) (eqb (n % 2) 1))

-- bits above those that count don't matter
set_places-low : (k a n : ℕ) → set_places k a (n % 2 ^ k) ≡ set_places k a n
unfolding set_places
set_places-low zero a n = refl
set_places-low (suc k) a n =
    let low : n % 2 ^ suc k % 2 ≡ n % 2 = ap (λ m. n % 2 ^ m % 2) (sym (add-one k)) ∙ mod-mod-pow n k 1 in
    let half : n % 2 ^ suc k / 2 ≡ n / 2 % 2 ^ k = ap (λ m. n % 2 ^ m / 2) (sym (add-one k)) ∙ field_of n k 1 in
    let later : set_places k (a + 1) (n % 2 ^ suc k / 2) ≡ set_places k (a + 1) (n / 2) =
    ap (set_places k (a + 1)) half ∙ set_places-low k (a + 1) (n / 2) in
    ap (λ r. cond (eqb r 1) (a ∷ set_places k (a + 1) (n % 2 ^ suc k / 2)) (set_places k (a + 1) (n % 2 ^ suc k / 2))) low
    ∙ ap (λ xs. cond (eqb (n % 2) 1) (a ∷ xs) xs) later

-- the same of what is computed of each item
moved : (f : ℕ → ℕ) (a b : ℕ) (xs ys : List ℕ) (t : Bool) → f a ≡ b → map f xs ≡ ys
    → map f (cond t (a ∷ xs) xs) ≡ cond t (b ∷ ys) ys
moved f a b xs ys true e h = λ i. e i ∷ h i
moved f a b xs ys false e h = h

-- places counted from another base
pub set_places-moved : (k a c n : ℕ) → a + k + c ≤ 2 ^ 32
    → map (λ p. (p + c) % 2 ^ 32) (set_places k a n) ≡ set_places k (a + c) n
unfolding set_places
set_places-moved zero a c n h = refl
set_places-moved (suc k) a c n h =
    let first : (a + c) % 2 ^ 32 ≡ a + c = mod-eq_of_lt (omega arith) in
    let place : a + 1 + c ≡ a + c + 1 = omega arith in
    let later : map (λ p. (p + c) % 2 ^ 32) (set_places k (a + 1) (n / 2)) ≡ set_places k (a + c + 1) (n / 2) =
    set_places-moved k (a + 1) c (n / 2) (omega arith) ∙ ap (λ b. set_places k b (n / 2)) place in
    moved (λ p. (p + c) % 2 ^ 32) a (a + c) (set_places k (a + 1) (n / 2)) (set_places k (a + c + 1) (n / 2)) (eqb (n % 2) 1)
    first later

-- one byte more
bytes_joined : (k j base bits byte : ℕ) → 8 * (k + 1) ≡ j → byte ≡ bits / 2 ^ (8 * k) % 256
    → set_places (8 * k) base bits ++ set_places 8 (base + 8 * k) byte ≡ set_places j base bits
bytes_joined k j base bits byte next is =
    let whole : 8 * k + 8 ≡ j = omega arith in
    ap (λ b. set_places (8 * k) base bits ++ set_places 8 (base + 8 * k) b) is
    ∙ (ap (λ xs. set_places (8 * k) base bits ++ xs) (set_places-low 8 (base + 8 * k) (bits / 2 ^ (8 * k)))
    ∙ (sym (set_places-parts (8 * k) 8 base bits)
    ∙ ap (λ n. set_places n base bits) whole))

-- the places of a byte more are written
pub byte_more : (k j base bits byte : ℕ) (front mid out : List ℕ) → 8 * (k + 1) ≡ j → byte ≡ bits / 2 ^ (8 * k) % 256
    → mid ≡ front ++ set_places (8 * k) base bits → out ≡ mid ++ set_places 8 (base + 8 * k) byte
    → out ≡ front ++ set_places j base bits
byte_more k j base bits byte front mid out next is so_far more =
    more
    ∙ (ap (λ xs. xs ++ set_places 8 (base + 8 * k) byte) so_far
    ∙ (append_assoc front (set_places (8 * k) base bits) (set_places 8 (base + 8 * k) byte)
    ∙ ap (λ xs. front ++ xs) (bytes_joined k j base bits byte next is)))

-- and counted
pub count_more : (k j base bits byte at from to : ℕ) → 8 * (k + 1) ≡ j → byte ≡ bits / 2 ^ (8 * k) % 256
    → from ≡ at + length (set_places (8 * k) base bits) → to ≡ from + length (set_places 8 (base + 8 * k) byte)
    → to ≡ at + length (set_places j base bits)
count_more k j base bits byte at from to next is so_far more =
    let both = ap length (bytes_joined k j base bits byte next is) in
    omega (arith, both, length-append (set_places (8 * k) base bits) (set_places 8 (base + 8 * k) byte))

-- of no bit
pub no_places : (k a n : ℕ) → k ≡ 0 → set_places k a n ≡ []
unfolding set_places
no_places k a n e = ap (λ m. set_places m a n) e

-- 0 has no bit that is set
ones_none : ones 0 ≡ 0
unfolding ones ones_in
ones_none = refl

-- as many places as bits that are set
pub places_ones : (k a n : ℕ) → n < 2 ^ k → length (set_places k a n) ≡ ones n
unfolding set_places
places_ones zero a n h = let none : n ≡ 0 = omega arith in sym (ap ones none ∙ ones_none)
places_ones (suc k) a n h =
    let below : n / 2 < 2 ^ k = omega (arith, pow-suc 2 k, h) in
    ones_by (set_places k (a + 1) (n / 2)) (eqb (n % 2) 1) refl (places_ones k (a + 1) (n / 2) below) ∙ sym (ones_step n)
  where
    ones_by : (xs : List ℕ) (t : Bool) → eqb (n % 2) 1 ≡ t → length xs ≡ ones (n / 2)
        → length (cond t (a ∷ xs) xs) ≡ n % 2 + ones (n / 2)
    ones_by xs true e h = let one : n % 2 ≡ 1 = grind (arith, nat_tests) in omega (arith, h)
    ones_by xs false e h = let none : n % 2 ≡ 0 = grind (arith, nat_tests) in omega (arith, h)
