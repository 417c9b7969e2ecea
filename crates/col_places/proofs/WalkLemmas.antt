-- Walks over rows and over those that are alive.
use Rattle.std.proofs.Common.{◌≡◌, ◌≢◌, ◌||◌, ℕ, zero, suc, ◌+◌, ◌<◌, ◌≤◌, ◌&&◌, Bool, true, false, cond, nat_le, nat_lt, List, [], ◌∷◌, ◌++◌, length, map, drop, get_or, filter, refl, sym, ap, ◌∙◌, subst, arith}
use Rattle.std.specs.List.{enumerate_from}
use Rattle.std.proofs.lemmas.Bool.{ne_eqb, leb-true, le-leb, ltb-true, and_parts}
use Rattle.col_places.specs.Places.{are_places, is_listed, places_of}

-- ---- places

module _ (first end_ id : ℕ) (ids : List ℕ) (are : are_places first end_ (id ∷ ids) ≡ true) where
  here : (nat_le first id && nat_lt id end_) ≡ true
  here = (and_parts (nat_le first id && nat_lt id end_) (are_places (id + 1) end_ ids) are).0

  pub places-rest : are_places (id + 1) end_ ids ≡ true
  places-rest = (and_parts (nat_le first id && nat_lt id end_) (are_places (id + 1) end_ ids) are).1

  pub places-first : first ≤ id
  places-first = leb-true first id (and_parts (nat_le first id) (nat_lt id end_) here).0

  pub places-last : id < end_
  places-last = ltb-true id end_ (and_parts (nat_le first id) (nat_lt id end_) here).1

  -- where the first place is moved up to one that none is before
  pub places-moved : (k : ℕ) → k ≤ id → are_places k end_ (id ∷ ids) ≡ true
  places-moved k le =
      ap (λ b. b && nat_lt id end_ && are_places (id + 1) end_ ids) (le-leb k id le ∙ sym (le-leb first id places-first)) ∙ are

pub places-lower : (k first end_ : ℕ) (ids : List ℕ) → k ≤ first → are_places first end_ ids ≡ true → are_places k end_ ids ≡ true
places-lower k first end_ [] le are = refl
places-lower k first end_ (id ∷ ids) le are =
    let first_one = places-first first end_ id ids are in
    places-moved first end_ id ids are k (omega (arith, le, first_one))

-- ---- places of items that pass

-- one item more
pub places-more : {A : Type 0} (first : ℕ) (test : A → Bool) (x : A) (xs : List A)
    → places_of first test (x ∷ xs) ≡ cond (test x) (first ∷ places_of (first + 1) test xs) (places_of (first + 1) test xs)
places-more {A} first test x xs = by (test x)
  where
    left : List (ℕ × A)
    left = filter (λ p. test p.1) (enumerate_from (first + 1) xs)

    by : (b : Bool) → map (λ (p : ℕ × A). p.0)
        (cond b ((first, x) ∷ filter (λ p. test p.1) (enumerate_from (first + 1) xs))
        (filter (λ p. test p.1) (enumerate_from (first + 1) xs)))
        ≡ cond b (first ∷ places_of (first + 1) test xs) (places_of (first + 1) test xs)
    by true = refl
    by false = refl

module _ {A : Type 0} (first : ℕ) (test : A → Bool) (x : A) (xs : List A) where
  pub places-taken : test x ≡ true → places_of first test (x ∷ xs) ≡ first ∷ places_of (first + 1) test xs
  places-taken is =
      places-more first test x xs ∙ ap (λ b. cond b (first ∷ places_of (first + 1) test xs) (places_of (first + 1) test xs)) is

  pub places-passed : test x ≡ false → places_of first test (x ∷ xs) ≡ places_of (first + 1) test xs
  places-passed is =
      places-more first test x xs ∙ ap (λ b. cond b (first ∷ places_of (first + 1) test xs) (places_of (first + 1) test xs)) is

-- by another test, which passes the same rows
pub places-agree : (p q : ℕ → Bool) (n k end_ : ℕ) (rows : List ℕ) → are_places k end_ rows ≡ true
    → ((r : ℕ) → k ≤ r → r < end_ → p r ≡ q r) → places_of n p rows ≡ places_of n q rows
places-agree p q n k end_ [] are same = refl
places-agree p q n k end_ (r ∷ rows) are same =
    let first_one = places-first k end_ r rows are in
    let last_one = places-last k end_ r rows are in
    let later =
    places-agree p q (n + 1) (r + 1) end_ rows (places-rest k end_ r rows are)
    (λ s le lt. same s (omega (arith, le, first_one)) lt) in
    places-more n p r rows
    ∙ (λ i. cond (same r first_one last_one i) (n ∷ later i) (later i))
    ∙ sym (places-more n q r rows)

-- no row passes
pub places-none : {A : Type 0} (n : ℕ) (test : A → Bool) (xs : List A) → ((x : A) → test x ≡ false) → places_of n test xs ≡ []
places-none n test [] none = refl
places-none n test (x ∷ xs) none = places-passed n test x xs (none x) ∙ places-none (n + 1) test xs none

-- of some items, then of others
pub places-append : {A : Type 0} (n : ℕ) (test : A → Bool) (xs ys : List A)
    → places_of n test (xs ++ ys) ≡ places_of n test xs ++ places_of (n + length xs) test ys
places-append n test [] ys = ap (λ k. places_of k test ys) (omega arith)
places-append n test (x ∷ xs) ys =
    places-more n test x (xs ++ ys)
    ∙ by (test x) (places-append (n + 1) test xs ys ∙ ap (λ k. places_of (n + 1) test xs ++ places_of k test ys) (omega arith))
    ∙ ap (λ ps. ps ++ places_of (n + suc (length xs)) test ys) (sym (places-more n test x xs))
  where
    by : (b : Bool) → places_of (n + 1) test (xs ++ ys) ≡ places_of (n + 1) test xs ++ places_of (n + suc (length xs)) test ys
        → cond b (n ∷ places_of (n + 1) test (xs ++ ys)) (places_of (n + 1) test (xs ++ ys))
        ≡ cond b (n ∷ places_of (n + 1) test xs) (places_of (n + 1) test xs) ++ places_of (n + suc (length xs)) test ys
    by true later = ap (λ ps. n ∷ ps) later
    by false later = later

-- of what a function makes of items
pub places-map : {A B : Type 0} (n : ℕ) (f : A → B) (p : B → Bool) (q : A → Bool) (xs : List A) → ((x : A) → p (f x) ≡ q x)
    → places_of n p (map f xs) ≡ places_of n q xs
places-map n f p q [] same = refl
places-map n f p q (x ∷ xs) same =
    places-more n p (f x) (map f xs)
    ∙ (λ i. cond (same x i) (n ∷ places-map (n + 1) f p q xs same i) (places-map (n + 1) f p q xs same i))
    ∙ sym (places-more n q x xs)

-- ---- one row

-- a row that isn't the first one listed
pub listed-later : (row r : ℕ) (rows : List ℕ) → row ≢ r → is_listed (row ∷ rows) r ≡ is_listed rows r
listed-later row r rows ne = ap (λ b. b || is_listed rows r) (ne_eqb row r ne)

-- a row below all that are listed
pub listed-below : (k end_ : ℕ) (rows : List ℕ) (r : ℕ) → are_places k end_ rows ≡ true → r < k → is_listed rows r ≡ false
listed-below k end_ [] r are lt = refl
listed-below k end_ (row ∷ rows) r are lt =
    let first_one = places-first k end_ row rows are in
    listed-later row r rows (λ e. omega (arith, e, lt, first_one))
    ∙ listed-below (row + 1) end_ rows r (places-rest k end_ row rows are) (omega (arith, lt, first_one))

-- behind the first row that is listed
pub listed-behind : (row end_ n : ℕ) (rows left : List ℕ) → are_places (row + 1) end_ left ≡ true
    → places_of n (is_listed (row ∷ rows)) left ≡ places_of n (is_listed rows) left
listed-behind row end_ n rows left are =
    places-agree (is_listed (row ∷ rows)) (is_listed rows) n (row + 1) end_ left are
    (λ r le lt. listed-later row r rows (λ e. omega (arith, e, le)))

-- ---- a list of rows

pub places-within : (k end_ : ℕ) (ids : List ℕ) (i : ℕ) → are_places k end_ ids ≡ true → i < length ids → get_or ids i 0 < end_
places-within k end_ [] i are lt = absurd (omega (arith, lt))
places-within k end_ (id ∷ ids) zero are lt = places-last k end_ id ids are
places-within k end_ (id ∷ ids) (suc i) are lt = places-within (id + 1) end_ ids i (places-rest k end_ id ids are) (omega (arith, lt))

-- the next one isn't before it
next-after : (k end_ : ℕ) (ids : List ℕ) (i : ℕ) → are_places k end_ ids ≡ true → suc i < length ids → get_or ids i 0 ≤ get_or ids (suc i) 0
next-after k end_ [] i are lt = absurd (omega (arith, lt))
next-after k end_ (id ∷ []) zero are lt = absurd (omega (arith, lt))
next-after k end_ (id ∷ next ∷ ids) zero are lt =
    let later = places-first (id + 1) end_ next ids (places-rest k end_ id (next ∷ ids) are) in
    omega (arith, later)
next-after k end_ (id ∷ ids) (suc i) are lt = next-after (id + 1) end_ ids i (places-rest k end_ id ids are) (omega (arith, lt))

pub places-next : (k end_ : ℕ) (ids : List ℕ) (i : ℕ) → are_places k end_ ids ≡ true → i + 1 < length ids
    → get_or ids i 0 ≤ get_or ids (i + 1) 0
places-next k end_ ids i are lt =
    let one : suc i ≡ i + 1 = omega arith in
    subst (λ (j : ℕ). get_or ids i 0 ≤ get_or ids j 0) one (next-after k end_ ids i are (omega (arith, lt)))
