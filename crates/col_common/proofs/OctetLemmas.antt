-- Numbers by their octets, the highest first.
use Rattle.std.proofs.Common.{◌≡◌, ℕ, zero, suc, ◌+◌, ◌*◌, ◌/◌, ◌%◌, ◌^◌, ◌<◌, List, [], ◌∷◌, length, refl, sym, ◌∙◌, ap, arith, lit<, pow-suc, div-one, div-add-mod'}
use Rattle.std.proofs.lemmas.Bool.Decides.{nat_tests, same_from_decides, Decides-like}
use Rattle.std.proofs.lemmas.Nat.{mod-mul-add, mul-add-lt, mod_below}
use native.Mathlib.Nat.{pow-zero, mod-one}
use Rattle.std.specs.Int.{bytes_high_first, byte_at, to_be_bytes, w128}
use Rattle.std.specs.Int.Digits.{number_from_digits, number_from_digits_after}
use Rattle.std.proofs.lemmas.Cmp.{tied_itself, nat_cmp_total}
use Rattle.std.specs.Cmp.Lexicographic.{slice_cmp}
use Rattle.std.specs.Ordering.{nat_cmp, ordering_then}
use Rattle.std.specs.declared.cmp.Ordering.{Ordering}
use Rattle.std.specs.declared.cmp.Ordering.TheVariants.{Less, Equal, Greater}
use Rattle.std.proofs.lemmas.Slice.Eq.{bytes_eq-Decides}
use Rattle.std.specs.Str.{bytes_eq}
use Rattle.col_common.specs.Ascending.{AreBelow}

-- orders one after another, in either bracketing
pub then_assoc : (a b c : Ordering) → ordering_then (ordering_then a b) c ≡ ordering_then a (ordering_then b c)
then_assoc Less b c = refl
then_assoc Equal b c = refl
then_assoc Greater b c = refl

-- a tie behind an order changes nothing
pub then_nothing : (a : Ordering) → ordering_then a Equal ≡ a
then_nothing Less = refl
then_nothing Equal = refl
then_nothing Greater = refl

-- one octet more
cmp_more : (m n x y : ℕ) → x < 256 → y < 256 → nat_cmp (m * 256 + x) (n * 256 + y) ≡ ordering_then (nat_cmp m n) (nat_cmp x y)
cmp_more m n x y p q = grind (arith, nat_tests)

cmp_after : (m n : ℕ) (xs ys : List ℕ) → length xs ≡ length ys → AreBelow 256 xs → AreBelow 256 ys
    → nat_cmp (number_from_digits_after 256 m xs) (number_from_digits_after 256 n ys)
    ≡ ordering_then (nat_cmp m n) (slice_cmp nat_cmp xs ys)
cmp_after m n [] [] e p q = sym (then_nothing (nat_cmp m n))
cmp_after m n [] (y ∷ ys) e p q = absurd (omega arith)
cmp_after m n (x ∷ xs) [] e p q = absurd (omega arith)
cmp_after m n (x ∷ xs) (y ∷ ys) e p q =
    cmp_after (m * 256 + x) (n * 256 + y) xs ys (omega arith) p.1 q.1
    ∙ ap (λ o. ordering_then o (slice_cmp nat_cmp xs ys)) (cmp_more m n x y p.0 q.0)
    ∙ then_assoc (nat_cmp m n) (nat_cmp x y) (slice_cmp nat_cmp xs ys)

-- numbers are ordered as their octets
pub octets_ordered : (xs ys : List ℕ) → length xs ≡ length ys → AreBelow 256 xs → AreBelow 256 ys
    → slice_cmp nat_cmp xs ys ≡ nat_cmp (number_from_digits 256 xs) (number_from_digits 256 ys)
octets_ordered xs ys e p q = sym (cmp_after 0 0 xs ys e p q)

pow_above : (k : ℕ) → 0 < 256 ^ k
pow_above zero = rw (pow-zero 256) (lit< tt)
pow_above (suc k) = let below = pow_above k in rw (pow-suc 256 k) (omega arith)

-- a remainder by its highest digit and the rest
mod_parts : (n p b : ℕ) → 0 < p → 0 < b → n % (p * b) ≡ (n / p % b) * p + n % p
mod_parts n p b pp pb =
    let q : ℕ = n / p in
    let d : ℕ = q % b in
    let r : ℕ = n % p in
    let whole : q * p + r ≡ n = div-add-mod' n p in
    let high : (q / b * b + d) * p ≡ q * p = ap (λ m. m * p) (div-add-mod' q b) in
    let parts : n ≡ q / b * (p * b) + (d * p + r) = omega (arith, whole, high) in
    ap (λ m. m % (p * b)) parts ∙ mod-mul-add (q / b) (p * b) (d * p + r) (mul-add-lt d p r b (mod_below q b pb) (mod_below n p pp))

byte_is : (k n : ℕ) → byte_at k n ≡ n / 256 ^ k % 256
byte_is zero n = ap (λ m. m % 256) (sym (rw (pow-zero 256, div-one)))
byte_is (suc k) n = refl

-- the lowest octets of a number, behind others
number_of_bytes : (k m n : ℕ) → number_from_digits_after 256 m (bytes_high_first k n) ≡ m * 256 ^ k + n % 256 ^ k
number_of_bytes zero m n = rw (pow-zero 256, mod-one) (omega arith)
number_of_bytes (suc k) m n =
    let p : ℕ = 256 ^ k in
    let power : 256 ^ suc k ≡ p * 256 = pow-suc 256 k in
    let rest = number_of_bytes k (m * 256 + byte_at k n) n in
    let digit : byte_at k n * p ≡ n / p % 256 * p = ap (λ d. d * p) (byte_is k n) in
    let parts : n % 256 ^ suc k ≡ n / p % 256 * p + n % p = ap (λ m. n % m) power ∙ mod_parts n p 256 (pow_above k) (lit< tt) in
    let more : m * 256 ^ suc k ≡ m * (p * 256) = ap (λ q. m * q) power in
    omega (arith, rest, digit, parts, more)

-- the octets of a number give it back
pub octets_again : (n : ℕ) → n < 2 ^ 128 → number_from_digits 256 (to_be_bytes w128 n) ≡ n
octets_again n h = number_of_bytes 16 0 n ∙ omega arith

bytes_are : (k n : ℕ) → AreBelow 256 (bytes_high_first k n)
bytes_are zero n = tt
bytes_are (suc k) n = (rw (byte_is k n) (mod_below (n / 256 ^ k) 256 (lit< tt)), bytes_are k n)

-- the octets of a number are below 256
pub are_octets : (n : ℕ) → AreBelow 256 (to_be_bytes w128 n)
are_octets n = bytes_are 16 n

-- an order of two parts is equal where both are
pub then_equal : (a b : Ordering) → ordering_then a b ≡ Equal → (a ≡ Equal) × (b ≡ Equal)
then_equal Less b h = cc
then_equal Equal b h = (refl, h)
then_equal Greater b h = cc

-- numbers that compare as equal are equal
pub cmp_equal : (x y : ℕ) → nat_cmp x y ≡ Equal → x ≡ y
cmp_equal x y h = grind (arith, nat_tests)

same_from_order : (xs ys : List ℕ) → length xs ≡ length ys → slice_cmp nat_cmp xs ys ≡ Equal → xs ≡ ys
same_from_order [] [] e h = refl
same_from_order [] (y ∷ ys) e h = absurd (omega arith)
same_from_order (x ∷ xs) [] e h = absurd (omega arith)
same_from_order (x ∷ xs) (y ∷ ys) e h =
    let parts = then_equal (nat_cmp x y) (slice_cmp nat_cmp xs ys) h in
    let first : x ≡ y = cmp_equal x y parts.0 in
    let others : xs ≡ ys = same_from_order xs ys (omega arith) parts.1 in
    cc

-- no other octets spell the number
pub octets_closed : (xs ys : List ℕ) → length xs ≡ length ys → AreBelow 256 xs → AreBelow 256 ys
    → number_from_digits 256 xs ≡ number_from_digits 256 ys → xs ≡ ys
octets_closed xs ys e p q same =
    let n : ℕ = number_from_digits 256 ys in
    same_from_order xs ys e (octets_ordered xs ys e p q ∙ (ap (λ m. nat_cmp m n) same ∙ tied_itself nat_cmp_total n))

-- bytes are equal either way
pub bytes_eq-swap : (xs ys : List ℕ) → bytes_eq xs ys ≡ bytes_eq ys xs
bytes_eq-swap xs ys = same_from_decides _ _ (bytes_eq-Decides xs ys) (Decides-like _ sym sym (bytes_eq-Decides ys xs))
