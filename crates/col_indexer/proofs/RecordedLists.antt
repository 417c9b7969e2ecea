-- Lists that rise or never fall, with one item more, or the last item raised.
use Rattle.std.proofs.Common.{◌≡◌, ℕ, ◌+◌, ◌-◌, ◌==◌, not, nat_lt, nat_le, Bool, true, false, cond, List, [], ◌∷◌, ◌++◌, length, get_or, set, refl, sym, ap, ◌∙◌, arith}
use Rattle.std.specs.List.{sum, list_all}
use Rattle.std.proofs.lemmas.Bool.{lt-ltb, leb-true, le-leb, and_parts, and_from, true≢false}
use Rattle.std.proofs.lemmas.List.Sums.{sum_by-cons}
use Rattle.col_common.specs.Ascending.{is_rising, is_never_falling, differences}
use Rattle.col_model.specs.Index.{are_offsets}
use Rattle.col_model.specs.Positions.{starts_after}
use Rattle.col_model.proofs.KeyLaws.{positive}
use Rattle.col_indexer.specs.Builders.{IsAfter, AllHaveValues, with_value}

-- ---- a row more

-- a test that all items pass, and one more does, all of the longer list pass
pub all-push : (p : ℕ → Bool) (xs : List ℕ) (y : ℕ) → list_all p xs ≡ true → p y ≡ true → list_all p (xs ++ y ∷ []) ≡ true
all-push p [] y a e = and_from (p y) true e refl
all-push p (x ∷ xs) y a e =
    let parts = and_parts (p x) (list_all p xs) a in and_from (p x) (list_all p (xs ++ y ∷ [])) parts.0
    (all-push p xs y parts.1 e)

-- a rising list with an item after all of its own rises
pub rising-push : (xs : List ℕ) (y : ℕ) → is_rising xs ≡ true → IsAfter xs y → is_rising (xs ++ y ∷ []) ≡ true
rising-push [] y e a = refl
rising-push (x ∷ []) y e a = and_from (nat_lt x y) true (and_parts (nat_lt x y) true a).0 refl
rising-push (x ∷ z ∷ zs) y e a =
    let parts = and_parts (nat_lt x z) (is_rising (z ∷ zs)) e in
    and_from (nat_lt x z) (is_rising (z ∷ (zs ++ y ∷ []))) parts.0
    (rising-push (z ∷ zs) y parts.1 (and_parts (nat_lt x y) (list_all (λ r. nat_lt r y) (z ∷ zs)) a).1)

-- ---- the last offset once more

-- the last of a list that isn't empty
abbrev pub last_of : ℕ → List ℕ → ℕ
last_of x xs = get_or (x ∷ xs) (length xs) 0

-- a list that never falls never falls with its last item once more
pub never_falling-again : (x : ℕ) (xs : List ℕ) → is_never_falling (x ∷ xs) ≡ true → is_never_falling (x ∷ (xs ++ last_of x xs ∷ [])) ≡ true
never_falling-again x [] e = and_from (nat_le x x) true (le-leb x x (omega arith)) refl
never_falling-again x (y ∷ ys) e =
    let parts = and_parts (nat_le x y) (is_never_falling (y ∷ ys)) e in
    and_from (nat_le x y) (is_never_falling (y ∷ (ys ++ last_of y ys ∷ []))) parts.0 (never_falling-again y ys parts.1)

-- a list with its last item once more has one more difference, which is 0
pub differences-again : (x : ℕ) (xs : List ℕ) → differences (x ∷ (xs ++ last_of x xs ∷ [])) ≡ differences (x ∷ xs) ++ 0 ∷ []
differences-again x [] = ap (λ n. n ∷ []) (omega arith)
differences-again x (y ∷ ys) = ap (λ ds. (y - x) ∷ ds) (differences-again y ys)

-- what all items pass, the last passes
pub all-last : (p : ℕ → Bool) (x : ℕ) (xs : List ℕ) → list_all p (x ∷ xs) ≡ true → p (last_of x xs) ≡ true
all-last p x [] a = (and_parts (p x) true a).0
all-last p x (y ∷ ys) a = all-last p y ys (and_parts (p x) (list_all p (y ∷ ys)) a).1

-- ---- one more than the last offset

-- a list of two or more that never falls never falls with its last item raised by one
pub never_falling-raised : (x y : ℕ) (ys : List ℕ) → is_never_falling (x ∷ y ∷ ys) ≡ true
    → is_never_falling (x ∷ set (y ∷ ys) (length ys) (last_of y ys + 1)) ≡ true
never_falling-raised x y [] e =
    let up = leb-true x y (and_parts (nat_le x y) true e).0 in
    and_from (nat_le x (y + 1)) true (le-leb x (y + 1) (omega arith)) refl
never_falling-raised x y (z ∷ zs) e =
    let parts = and_parts (nat_le x y) (is_never_falling (y ∷ z ∷ zs)) e in
    and_from (nat_le x y) (is_never_falling (y ∷ set (z ∷ zs) (length zs) (last_of z zs + 1))) parts.0 (never_falling-raised y z zs parts.1)

-- raising the last of two items or more by one raises the last difference by one
pub differences-raised : (x y : ℕ) (ys : List ℕ) → is_never_falling (x ∷ y ∷ ys) ≡ true
    → differences (x ∷ set (y ∷ ys) (length ys) (last_of y ys + 1)) ≡ with_value (differences (x ∷ y ∷ ys))
unfolding with_value
differences-raised x y [] e =
    let up = leb-true x y (and_parts (nat_le x y) true e).0 in
    ap (λ n. n ∷ []) (omega arith)
differences-raised x y (z ∷ zs) e =
    let parts = and_parts (nat_le x y) (is_never_falling (y ∷ z ∷ zs)) e in
    ap (λ ds. (y - x) ∷ ds) (differences-raised y z zs parts.1)

-- what all items pass, and one more does, all pass with the last replaced by this
pub all-raised : (p : ℕ → Bool) (y : ℕ) (ys : List ℕ) (v : ℕ) → list_all p (y ∷ ys) ≡ true → p v ≡ true
    → list_all p (set (y ∷ ys) (length ys) v) ≡ true
all-raised p y [] v a e = and_from (p v) true e refl
all-raised p y (z ∷ zs) v a e =
    let parts = and_parts (p y) (list_all p (z ∷ zs)) a in
    and_from (p y) (list_all p (set (z ∷ zs) (length zs) v)) parts.0 (all-raised p z zs v parts.1 e)

-- the last offset is the first and all differences
pub last-sum : (x : ℕ) (xs : List ℕ) → is_never_falling (x ∷ xs) ≡ true → last_of x xs ≡ x + sum (differences (x ∷ xs))
last-sum x [] e = omega arith
last-sum x (y ∷ ys) e =
    let parts = and_parts (nat_le x y) (is_never_falling (y ∷ ys)) e in
    let up = leb-true x y parts.0 in
    let rest = last-sum y ys parts.1 in
    omega (arith, sum_by-cons (λ d. d) (y - x) (differences (y ∷ ys)))

-- ---- offsets of rows that all have values

-- numbers whose differences are all above 0 are, from the first on, the starts of rows with these
-- counts
pub starts-recorded : (x : ℕ) (xs : List ℕ) → is_never_falling (x ∷ xs) ≡ true
    → AllHaveValues (differences (x ∷ xs)) → starts_after x (differences (x ∷ xs)) ≡ x ∷ xs
starts-recorded x [] e a = refl
starts-recorded x (y ∷ ys) e a =
    let parts = and_parts (nat_le x y) (is_never_falling (y ∷ ys)) e in
    let up = leb-true x y parts.0 in
    let more = and_parts (not (y - x == 0)) (list_all (λ c. not (c == 0)) (differences (y ∷ ys))) a in
    let same : x + (y - x) ≡ y = omega arith in
    by_test (y - x == 0) more.0 (starts_after (x + (y - x)) (differences (y ∷ ys)))
    ∙ ap (λ later. x ∷ later) (ap (λ n. starts_after n (differences (y ∷ ys))) same ∙ starts-recorded y ys parts.1 more.1)
  where
    by_test : (b : Bool) → not b ≡ true → (later : List ℕ) → cond b later (x ∷ later) ≡ x ∷ later
    by_test true t later = absurd (true≢false (sym t))
    by_test false t later = refl

-- offsets begin at 0
pub first_is_zero : (x : ℕ) (xs : List ℕ) → are_offsets (x ∷ xs) ≡ true → x ≡ 0
first_is_zero x xs a = grind (arith, a)

-- a list that never falls, with differences that are all above 0, rises
pub rising-recorded : (x : ℕ) (xs : List ℕ) → is_never_falling (x ∷ xs) ≡ true
    → AllHaveValues (differences (x ∷ xs)) → is_rising (x ∷ xs) ≡ true
rising-recorded x [] e a = refl
rising-recorded x (y ∷ ys) e a =
    let parts = and_parts (nat_le x y) (is_never_falling (y ∷ ys)) e in
    let more = and_parts (not (y - x == 0)) (list_all (λ c. not (c == 0)) (differences (y ∷ ys))) a in
    let up = leb-true x y parts.0 in
    let apart = positive (y - x) more.0 in
    and_from (nat_lt x y) (is_rising (y ∷ ys)) (lt-ltb x y (omega arith)) (rising-recorded y ys parts.1 more.1)
