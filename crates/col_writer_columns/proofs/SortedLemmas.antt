-- Pairs of a number and a document, once they are sorted.
use Rattle.std.proofs.Common.{◌≡◌, ◌<◌, ◌≤◌, ℕ, zero, suc, ◌+◌, ◌*◌, ◌^◌, ◌%◌, List, [], ◌∷◌, map, get_or, Bool, true, false, cond, T, refl, sym, ◌∙◌, ap, subst, arith, le-leb, lt-ltb}
use Rattle.std.specs.Prelude.{nat_le, nat_lt, ◌==◌, ◌&&◌, ◌||◌, not}
use Rattle.std.specs.List.{list_any, list_all, range_with_len, IsDistinct, AllByRecursion}
use Rattle.std.specs.List.Sorted.{IsPermutation, IsSorted}
use Rattle.std.specs.declared.cmp.Ordering.{Ordering}
use Rattle.std.specs.Ordering.{nat_cmp, is_lt, ordering_then, eq_by_cmp}
use Rattle.std.specs.FinMap.{nat_cmp-IsAntisymmetric}
use Rattle.std.specs.FinMap.Entries.{below_all}
use Rattle.std.proofs.lemmas.Bool.{and_parts, and_from}
use Rattle.std.proofs.lemmas.Cmp.{nat_cmp_total}
use Rattle.std.proofs.lemmas.List.Sorted.{IsPermutation-map, list_any-IsPermutation}
use Rattle.std.proofs.lemmas.Map.Keys.{IsDistinct-head, IsDistinct-tail, IsDistinct-IsPermutation}
use Rattle.col_common.specs.Ascending.{are_below}
use Rattle.col_model.specs.Sorted.{sorted_items, inserted}
use Rattle.col_model.proofs.DistinctLaws.{has, keyed, rises, same_rising}
use Rattle.col_writer_rows.specs.Documents.{all_from}

-- by their numbers, then by their documents
abbrev pub pair_cmp : ℕ × ℕ → ℕ × ℕ → Ordering
pair_cmp a b = ordering_then (nat_cmp a.0 b.0) (nat_cmp a.1 b.1)

-- a pair as one number
pub code : ℕ × ℕ → ℕ
code p = p.0 * 2 ^ 32 + p.1

-- ---- numbers that rise are told by what they are

below-from : (a b : ℕ) (xs : List ℕ) → a < b → all_from b xs ≡ true → T (below_all nat_cmp a (keyed xs))
unfolding all_from
below-from a b [] h e = tt
below-from a b (x ∷ xs) h e =
    let parts = and_parts (nat_le b x) (all_from (x + 1) xs) e in
    let up : b ≤ x = grind arith in
    let less : nat_lt a x ≡ true = lt-ltb _ _ (omega arith) in
    let here : is_lt (nat_cmp a x) ≡ true = grind arith in
    subst T (sym (and_from _ _ here (true_of _ (below-from a (x + 1) xs (omega arith) parts.1)))) tt
  where
    true_of : (b : Bool) → T b → b ≡ true
    true_of true t = refl
    true_of false t = absurd t

rises-from : (a : ℕ) (xs : List ℕ) → all_from a xs ≡ true → T (rises nat_cmp xs)
unfolding all_from
rises-from a [] e = tt
rises-from a (x ∷ xs) e =
    let parts = and_parts (nat_le a x) (all_from (x + 1) xs) e in
    both _ _ (below-from x (x + 1) xs (omega arith) parts.1) (rises-from (x + 1) xs parts.1)
  where
    both : (b c : Bool) → T b → T c → T (b && c)
    both true c t u = u
    both false c t u = absurd t

pub same_from_any : (xs ys : List ℕ) → all_from 0 xs ≡ true → all_from 0 ys ≡ true
    → ((q : ℕ) → has nat_cmp q xs ≡ has nat_cmp q ys) → xs ≡ ys
same_from_any xs ys e f h = same_rising nat_cmp nat_cmp_total nat_cmp-IsAntisymmetric xs ys (rises-from 0 xs e) (rises-from 0 ys f) h

-- ---- sorted by insertion

-- each document as its number's code
abbrev with_number : (ℕ → ℕ) → ℕ → ℕ
with_number f d = code (f d, d)

code-less : (f : ℕ → ℕ) (x y : ℕ) → x < y → y < 2 ^ 32 → f x ≤ f y → with_number f x + 1 ≤ with_number f y
unfolding code
code-less f x y h fits up = omega (arith, up)

code-more : (f : ℕ → ℕ) (x y : ℕ) → x < 2 ^ 32 → y < 2 ^ 32 → f y < f x → with_number f y + 1 ≤ with_number f x
unfolding code
code-more f x y h fits up = omega (arith, up)

inserted-rise : (f : ℕ → ℕ) (least x : ℕ) (zs : List ℕ) → x < 2 ^ 32
    → list_all (λ z. nat_lt x z && nat_lt z (2 ^ 32)) zs ≡ true → least ≤ with_number f x
    → all_from least (map (with_number f) zs) ≡ true
    → all_from least (map (with_number f) (inserted (λ a b. nat_le (f a) (f b)) x zs)) ≡ true
unfolding all_from
inserted-rise f least x [] fits above low e = and_from _ true (le-leb _ _ low) refl
inserted-rise f least x (z ∷ zs) fits above low e =
    let parts = and_parts (nat_le least (with_number f z)) (all_from (with_number f z + 1) (map (with_number f) zs)) e in
    let here = and_parts (nat_lt x z && nat_lt z (2 ^ 32)) (list_all (λ z. nat_lt x z && nat_lt z (2 ^ 32)) zs) above in
    let now = and_parts (nat_lt x z) (nat_lt z (2 ^ 32)) here.0 in
    let less : x < z = grind arith in
    let small : z < 2 ^ 32 = grind arith in
    by (nat_le (f x) (f z)) refl less small parts.0 parts.1 (λ h. inserted-rise f (with_number f z + 1) x zs fits here.1 h parts.1)
  where
    by : (b : Bool) → nat_le (f x) (f z) ≡ b → x < z → z < 2 ^ 32 → nat_le least (with_number f z) ≡ true
        → all_from (with_number f z + 1) (map (with_number f) zs) ≡ true
        → (with_number f z + 1 ≤ with_number f x
        → all_from (with_number f z + 1) (map (with_number f) (inserted (λ a b. nat_le (f a) (f b)) x zs)) ≡ true) →
        all_from least (map (with_number f) (cond b (x ∷ z ∷ zs) (z ∷ inserted (λ a b. nat_le (f a) (f b)) x zs))) ≡ true
    by true t less small first rest later =
        let up : f x ≤ f z = grind arith in
        and_from _ _ (le-leb _ _ low) (and_from _ _ (le-leb _ _ (code-less f x z less small up)) rest)
    by false t less small first rest later =
        let up : f z < f x = grind arith in
        and_from _ _ first (later (code-more f x z fits small up))

all-inserted : (p : ℕ → Bool) (at_most : ℕ → ℕ → Bool) (x : ℕ) (zs : List ℕ) → p x ≡ true → list_all p zs ≡ true
    → list_all p (inserted at_most x zs) ≡ true
all-inserted p at_most x [] h e = and_from _ true h refl
all-inserted p at_most x (z ∷ zs) h e =
    let parts = and_parts (p z) (list_all p zs) e in by (at_most x z) parts.0 parts.1 (all-inserted p at_most x zs h parts.1)
  where
    by : (b : Bool) → p z ≡ true → list_all p zs ≡ true → list_all p (inserted at_most x zs) ≡ true
        → list_all p (cond b (x ∷ z ∷ zs) (z ∷ inserted at_most x zs)) ≡ true
    by true f g rest = and_from _ _ h (and_from _ _ f g)
    by false f g rest = and_from _ _ f rest

pub all-sorted : (p : ℕ → Bool) (at_most : ℕ → ℕ → Bool) (zs : List ℕ) → list_all p zs ≡ true → list_all p (sorted_items at_most zs) ≡ true
unfolding sorted_items
all-sorted p at_most [] e = refl
all-sorted p at_most (z ∷ zs) e =
    let parts = and_parts (p z) (list_all p zs) e in all-inserted p at_most z (sorted_items at_most zs) parts.0
    (all-sorted p at_most zs parts.1)

any-inserted : (p : ℕ → Bool) (f : ℕ → ℕ) (at_most : ℕ → ℕ → Bool) (x : ℕ) (zs : List ℕ)
    → list_any p (map f (inserted at_most x zs)) ≡ (p (f x) || list_any p (map f zs))
any-inserted p f at_most x [] = refl
any-inserted p f at_most x (z ∷ zs) = by (at_most x z) (any-inserted p f at_most x zs)
  where
    turn : (a b c : Bool) → (b || (a || c)) ≡ (a || (b || c))
    turn true true c = refl
    turn true false c = refl
    turn false b c = refl

    by : (b : Bool) → list_any p (map f (inserted at_most x zs)) ≡ (p (f x) || list_any p (map f zs))
        → list_any p (map f (cond b (x ∷ z ∷ zs) (z ∷ inserted at_most x zs)))
        ≡ (p (f x) || list_any p (map f (z ∷ zs)))
    by true rest = refl
    by false rest = ap (λ b. p (f z) || b) rest ∙ turn (p (f x)) (p (f z)) (list_any p (map f zs))

any-sorted : (p : ℕ → Bool) (f : ℕ → ℕ) (at_most : ℕ → ℕ → Bool) (zs : List ℕ)
    → list_any p (map f (sorted_items at_most zs)) ≡ list_any p (map f zs)
unfolding sorted_items
any-sorted p f at_most [] = refl
any-sorted p f at_most (z ∷ zs) = any-inserted p f at_most z (sorted_items at_most zs) ∙ ap (λ b. p (f z) || b) (any-sorted p f at_most zs)

range-above : (x a n : ℕ) → x < a → a + n ≤ 2 ^ 32 → list_all (λ z. nat_lt x z && nat_lt z (2 ^ 32)) (range_with_len a n) ≡ true
range-above x a zero h fits = refl
range-above x a (suc n) h fits =
    let small : a < 2 ^ 32 = omega arith in
    and_from _ _ (and_from _ _ (lt-ltb _ _ h) (lt-ltb _ _ small)) (range-above x (a + 1) n (omega arith) (omega arith))

sorted-rise : (f : ℕ → ℕ) (a n : ℕ) → a + n ≤ 2 ^ 32
    → all_from 0 (map (with_number f) (sorted_items (λ a b. nat_le (f a) (f b)) (range_with_len a n))) ≡ true
unfolding sorted_items all_from
sorted-rise f a zero fits = refl
sorted-rise f a (suc n) fits =
    inserted-rise f 0 a (sorted_items (λ a b. nat_le (f a) (f b)) (range_with_len (a + 1) n)) (omega arith)
    (all-sorted (λ z. nat_lt a z && nat_lt z (2 ^ 32)) (λ a b. nat_le (f a) (f b)) (range_with_len (a + 1) n)
    (range-above a (a + 1) n (omega arith) (omega arith)))
    (omega arith) (sorted-rise f (a + 1) n (omega arith))

-- ---- sorted pairs

range-distinct : (a n : ℕ) → IsDistinct (λ x y. x == y) (range_with_len a n)
unfolding IsDistinct
range-distinct a zero = tt
range-distinct a (suc n) = (apart a (a + 1) n (omega arith), range-distinct (a + 1) n)
  where
    apart : (x a n : ℕ) → x < a → AllByRecursion (λ y. (x == y) ≡ false) (range_with_len a n)
    apart x a zero h = tt
    apart x a (suc n) h = (grind arith, apart x (a + 1) n (omega arith))

next-code : (x y : ℕ × ℕ) → is_lt (pair_cmp y x) ≡ false → (x.1 == y.1) ≡ false → x.1 < 2 ^ 32 → y.1 < 2 ^ 32 → code x + 1 ≤ code y
unfolding code
next-code (a, d) (b, e) h apart fits small = by (nat_lt b a) (b == a) (nat_lt e d) refl refl refl h
  where
    by : (u v w : Bool) → nat_lt b a ≡ u → (b == a) ≡ v → nat_lt e d ≡ w → is_lt (pair_cmp (b, e) (a, d)) ≡ false
        → a * 2 ^ 32 + d + 1 ≤ b * 2 ^ 32 + e
    by true v w f g k t = absurd (grind arith)
    by false true true f g k t = absurd (grind arith)
    by false true false f g k t = let same : b ≡ a = grind arith in let up : d < e = grind arith in omega (arith, same, up)
    by false false w f g k t = let up : a < b = grind arith in omega (arith, up)

sorted-tail : (x : ℕ × ℕ) (ys : List (ℕ × ℕ)) → IsSorted pair_cmp (x ∷ ys) → IsSorted pair_cmp ys
sorted-tail x ys s k e low high =
    let same : suc k + 1 ≡ suc (k + 1) = omega arith in
    ap (λ m. is_lt (pair_cmp (get_or (x ∷ ys) m e) (get_or ys k e))) (sym same) ∙ s (suc k) e (omega arith) (omega arith)

sorted-codes : (least : ℕ) (x : ℕ × ℕ) (ys : List (ℕ × ℕ)) → least ≤ code x → IsSorted pair_cmp (x ∷ ys)
    → IsDistinct (λ x y. x == y) (map (λ p. p.1) (x ∷ ys)) → list_all (λ p. nat_lt p.1 (2 ^ 32)) (x ∷ ys) ≡ true
    → all_from least (map code (x ∷ ys)) ≡ true
unfolding all_from
sorted-codes least x [] low s d fits = and_from _ true (le-leb _ _ low) refl
sorted-codes least x (y ∷ ys) low s d fits =
    let parts = and_parts (nat_lt x.1 (2 ^ 32)) (list_all (λ p. nat_lt p.1 (2 ^ 32)) (y ∷ ys)) fits in
    let here = and_parts (nat_lt y.1 (2 ^ 32)) (list_all (λ p. nat_lt p.1 (2 ^ 32)) ys) parts.1 in
    let small : x.1 < 2 ^ 32 = grind arith in
    let fit : y.1 < 2 ^ 32 = grind arith in
    let apart = (IsDistinct-head (λ x y. x == y) x.1 (map (λ p. p.1) (y ∷ ys)) d).0 in
    let next = next-code x y (s 0 x (omega arith) (omega arith)) apart small fit in
    and_from _ _ (le-leb _ _ low)
    (sorted-codes (code x + 1) y ys next (sorted-tail x (y ∷ ys) s)
    (IsDistinct-tail (λ x y. x == y) x.1 (map (λ p. p.1) (y ∷ ys)) d) parts.1)

-- ---- both are one

uncoded : (ys : List (ℕ × ℕ)) → list_all (λ p. nat_lt p.1 (2 ^ 32)) ys ≡ true → map (λ c. c % 2 ^ 32) (map code ys) ≡ map (λ p. p.1) ys
unfolding code
uncoded [] e = refl
uncoded (y ∷ ys) e =
    let parts = and_parts (nat_lt y.1 (2 ^ 32)) (list_all (λ p. nat_lt p.1 (2 ^ 32)) ys) e in
    let small : y.1 < 2 ^ 32 = grind arith in
    let back : (y.0 * 2 ^ 32 + y.1) % 2 ^ 32 ≡ y.1 = omega (arith, small) in
    λ i. back i ∷ uncoded ys parts.1 i

uncoded-docs : (f : ℕ → ℕ) (zs : List ℕ) → are_below (2 ^ 32) zs ≡ true → map (λ c. c % 2 ^ 32) (map (with_number f) zs) ≡ zs
unfolding code
uncoded-docs f [] e = refl
uncoded-docs f (z ∷ zs) e =
    let parts = and_parts (nat_lt z (2 ^ 32)) (are_below (2 ^ 32) zs) e in
    let small : z < 2 ^ 32 = grind arith in
    let back : (f z * 2 ^ 32 + z) % 2 ^ 32 ≡ z = omega (arith, small) in
    λ i. back i ∷ uncoded-docs f zs parts.1 i

range-fits : (a n : ℕ) → a + n ≤ 2 ^ 32 → are_below (2 ^ 32) (range_with_len a n) ≡ true
range-fits a zero h = refl
range-fits a (suc n) h = let small : a < 2 ^ 32 = omega arith in and_from _ _ (lt-ltb _ _ small) (range-fits (a + 1) n (omega arith))

pairs-fit : (f : ℕ → ℕ) (zs : List ℕ) → are_below (2 ^ 32) zs ≡ true
    → list_all (λ (p : ℕ × ℕ). nat_lt p.1 (2 ^ 32)) (map (λ d. (f d, d)) zs) ≡ true
pairs-fit f [] e = refl
pairs-fit f (z ∷ zs) e =
    let parts = and_parts (nat_lt z (2 ^ 32)) (are_below (2 ^ 32) zs) e in and_from _ _ parts.0
    (pairs-fit f zs parts.1)

docs-pairs : (f : ℕ → ℕ) (zs : List ℕ) → map (λ (p : ℕ × ℕ). p.1) (map (λ d. (f d, d)) zs) ≡ zs
docs-pairs f [] = refl
docs-pairs f (z ∷ zs) = ap (λ r. z ∷ r) (docs-pairs f zs)

codes-pairs : (f : ℕ → ℕ) (zs : List ℕ) → map code (map (λ d. (f d, d)) zs) ≡ map (with_number f) zs
codes-pairs f [] = refl
codes-pairs f (z ∷ zs) = ap (λ r. with_number f z ∷ r) (codes-pairs f zs)

all-fail : {A : Type 0} (p : A → Bool) (xs : List A) → list_all p xs ≡ true → list_any (λ x. not (p x)) xs ≡ false
all-fail p [] e = refl
all-fail p (x ∷ xs) e = let parts = and_parts (p x) (list_all p xs) e in λ i. not (parts.0 i) || all-fail p xs parts.1 i

none-fails : {A : Type 0} (p : A → Bool) (ys : List A) → list_any (λ x. not (p x)) ys ≡ false → list_all p ys ≡ true
none-fails p [] e = refl
none-fails p (y ∷ ys) e = by (p y) e (none-fails p ys)
  where
    by : (b : Bool) → (not b || list_any (λ x. not (p x)) ys) ≡ false
        → (list_any (λ x. not (p x)) ys ≡ false → list_all p ys ≡ true) → (b && list_all p ys) ≡ true
    by true g later = later g
    by false g later = cc

-- a permutation passes a test where the list does
all-moved : {A : Type 0} (p : A → Bool) (xs ys : List A) → IsPermutation xs ys → list_all p xs ≡ true → list_all p ys ≡ true
all-moved p xs ys h e = none-fails p ys (sym (list_any-IsPermutation (λ x. not (p x)) xs ys h) ∙ all-fail p xs e)

all-codes : (ys : List (ℕ × ℕ)) → IsSorted pair_cmp ys → IsDistinct (λ x y. x == y) (map (λ p. p.1) ys)
    → list_all (λ p. nat_lt p.1 (2 ^ 32)) ys ≡ true → all_from 0 (map code ys) ≡ true
unfolding all_from
all-codes [] s d e = refl
all-codes (y ∷ ys) s d e = sorted-codes 0 y ys (omega arith) s d e

-- the documents of sorted pairs are those that insertion gives
pub sorted-docs : (f : ℕ → ℕ) (n : ℕ) (ps ys : List (ℕ × ℕ)) → n < 2 ^ 32
    → ps ≡ map (λ d. (f d, d)) (range_with_len 0 n) → IsPermutation ps ys → IsSorted pair_cmp ys
    → map (λ p. p.1) ys ≡ sorted_items (λ a b. nat_le (f a) (f b)) (range_with_len 0 n)
sorted-docs f n ps ys fits is p s =
    let ds = range_with_len 0 n in
    let all = range-fits 0 n (omega arith) in
    let zs = sorted_items (λ a b. nat_le (f a) (f b)) ds in
    let small : list_all (λ (p : ℕ × ℕ). nat_lt p.1 (2 ^ 32)) ys ≡ true =
    all-moved (λ p. nat_lt p.1 (2 ^ 32)) ps ys p
    (ap (list_all (λ (p : ℕ × ℕ). nat_lt p.1 (2 ^ 32))) is ∙ pairs-fit f ds all) in
    let differ : IsDistinct (λ x y. x == y) (map (λ p. p.1) ys) =
    IsDistinct-IsPermutation (λ x y. x == y) turned ds (map (λ p. p.1) ys)
    (subst (λ r. IsPermutation r (map (λ p. p.1) ys)) (ap (map (λ p. p.1)) is ∙ docs-pairs f ds)
    (IsPermutation-map (λ p. p.1) ps ys p)) (range-distinct 0 n) in
    let same : map code ys ≡ map (with_number f) zs =
    same_from_any (map code ys) (map (with_number f) zs) (all-codes ys s differ small) (sorted-rise f 0 n (omega arith))
    (λ q. sym (list_any-IsPermutation (eq_by_cmp nat_cmp q) (map code ps) (map code ys) (IsPermutation-map code ps ys p))
    ∙ ap (λ r. list_any (eq_by_cmp nat_cmp q) (map code r)) is ∙ ap (list_any (eq_by_cmp nat_cmp q)) (codes-pairs f ds)
    ∙ sym (any-sorted (eq_by_cmp nat_cmp q) (with_number f) (λ a b. nat_le (f a) (f b)) ds)) in
    sym (uncoded ys small) ∙ ap (map (λ c. c % 2 ^ 32)) same
    ∙ uncoded-docs f zs (all-sorted (λ z. nat_lt z (2 ^ 32)) (λ a b. nat_le (f a) (f b)) ds all)
  where
    turned : (x y : ℕ) → (x == y) ≡ (y == x)
    turned x y = grind arith
