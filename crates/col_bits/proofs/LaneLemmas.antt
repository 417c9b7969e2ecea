-- Lists that are computed place by place, and the bits of lists of tests.
use Rattle.std.proofs.Common.{◌≡◌, ℕ, zero, suc, ◌+◌, ◌*◌, ◌^◌, ◌<◌, Bool, List, [], ◌∷◌, ◌++◌, map, length, refl, sym, ◌∙◌, ap, arith, mul_comm, mul_assoc, pow-suc}
use Rattle.std.proofs.lemmas.List.{map-append}
use Rattle.std.proofs.lemmas.Simd.{mask_l-lt}
use Rattle.std.specs.List.{range_with_len}
use Rattle.std.specs.Simd.Lanes.{mask_l}
use Rattle.col_bits.proofs.ItemLemmas.{range_parts}

-- two functions that agree at each number give the same list
pub map_agree : {X : Type 0} (f g : ℕ → X) (ks : List ℕ) → ((k : ℕ) → f k ≡ g k) → map f ks ≡ map g ks
map_agree f g [] e = refl
map_agree f g (k ∷ ks) e = λ i. e k i ∷ map_agree f g ks e i

-- what is computed for two neighbouring ranges
pub parts_of : {X : Type 0} (f : ℕ → X) (a n m b k : ℕ) → a + n ≡ b → n + m ≡ k
    → map f (range_with_len a n) ++ map f (range_with_len b m) ≡ map f (range_with_len a k)
parts_of f a n m b k at whole =
    ap (λ c. map f (range_with_len a n) ++ map f (range_with_len c m)) (sym at)
    ∙ (sym (map-append f (range_with_len a n) (range_with_len (a + n) m))
    ∙ (ap (map f) (sym (range_parts a n m)) ∙ ap (λ c. map f (range_with_len a c)) whole))

-- tests of places that are counted from another one
pub tests_moved : (f : ℕ → Bool) (g : ℕ → ℕ) (a b c n : ℕ) → a + b ≡ c
    → map f (map g (range_with_len c n)) ≡ map (λ k. f (g (a + k))) (range_with_len b n)
tests_moved f g a b c zero e = refl
tests_moved f g a b c (suc n) e =
    let next : a + (b + 1) ≡ c + 1 = omega arith in
    λ i. f (g (sym e i)) ∷ tests_moved f g a (b + 1) (c + 1) n next i

-- sixteen lanes, joined of four times four
pub joined_16 : (f : ℕ → ℕ) (from : ℕ) (a b c d ab cd all : List ℕ) → a ≡ map f (range_with_len from 4)
    → b ≡ map f (range_with_len (from + 4) 4) → c ≡ map f (range_with_len (from + 8) 4)
    → d ≡ map f (range_with_len (from + 12) 4) → ab ≡ a ++ b → cd ≡ c ++ d → all ≡ ab ++ cd
    → all ≡ map f (range_with_len from 16)
joined_16 f from a b c d ab cd all ea eb ec ed e1 e2 e3 =
    e3
    ∙ ((λ i. (e1 ∙ (λ j. ea j ++ eb j)) i ++ (e2 ∙ (λ j. ec j ++ ed j)) i)
    ∙ ((λ i. parts_of f from 4 4 (from + 4) 8 refl refl i ++ parts_of f (from + 8) 4 4 (from + 12) 8 (omega arith) refl i)
    ∙ parts_of f from 8 8 (from + 8) 16 refl refl))

-- the bits of two lists of tests, one behind the other
pub mask_l-append : (xs ys : List Bool) → mask_l (xs ++ ys) ≡ mask_l xs + 2 ^ length xs * mask_l ys
mask_l-append [] ys = omega arith
mask_l-append (x ∷ xs) ys =
    let power : 2 ^ suc (length xs) ≡ 2 ^ length xs * 2 = pow-suc 2 (length xs) in
    let high : 2 ^ suc (length xs) * mask_l ys ≡ 2 * (2 ^ length xs * mask_l ys) =
    ap (λ p. p * mask_l ys) (power ∙ mul_comm (2 ^ length xs) 2) ∙ mul_assoc 2 (2 ^ length xs) (mask_l ys) in
    let later : mask_l (xs ++ ys) ≡ mask_l xs + 2 ^ length xs * mask_l ys = mask_l-append xs ys in
    omega (arith, high, later)

-- the bits of sixteen tests, and of those behind them
bits_more : (f : ℕ → Bool) (a b n k : ℕ) → a + 16 ≡ b → 16 + n ≡ k
    → mask_l (map f (range_with_len a k)) ≡ mask_l (map f (range_with_len a 16)) + 65536 * mask_l (map f (range_with_len b n))
bits_more f a b n k at whole =
    ap mask_l (sym (parts_of f a 16 n b k at whole)) ∙ mask_l-append (map f (range_with_len a 16)) (map f (range_with_len b n))

-- 64 bits of four times sixteen
pub bits_64 : (f : ℕ → Bool) (a b c d : ℕ) → a ≡ mask_l (map f (range_with_len 0 16))
    → b ≡ mask_l (map f (range_with_len 16 16)) → c ≡ mask_l (map f (range_with_len 32 16))
    → d ≡ mask_l (map f (range_with_len 48 16))
    → a + 65536 * b + 4294967296 * c + 281474976710656 * d ≡ mask_l (map f (range_with_len 0 64))
bits_64 f a b c d ea eb ec ed =
    let p1 = bits_more f 0 16 48 64 refl refl in
    let p2 = bits_more f 16 32 32 48 refl refl in
    let p3 = bits_more f 32 48 16 32 refl refl in
    omega (arith, p1, p2, p3, ea, eb, ec, ed)

-- the bits of sixteen tests are a number of sixteen bits
pub below_16 : (f : ℕ → Bool) (from : ℕ) → mask_l (map f (range_with_len from 16)) < 65536
below_16 f from = mask_l-lt (map f (range_with_len from 16))
