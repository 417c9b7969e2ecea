-- Lists: what all items keep, and where items stand.
use Rattle.std.proofs.Common.{◌≡◌, ℕ, zero, suc, ◌-◌, ◌<◌, ◌≤◌, nat_lt, Bool, true, false, lt-ltb, List, [], ◌∷◌, ◌++◌, map, filter, filter_map, length, get_or, take, drop, slice_get, Some, find, refl, sym, subst, ◌∙◌, ap, arith, ◌+◌, sum, cond}
use Rattle.std.specs.Prelude.{unwrap_or}
use Rattle.std.specs.List.{AllByRecursion, AllZip, range_with_len}
use Rattle.std.proofs.lemmas.Bool.{true≢false, and_parts}
use Rattle.std.proofs.lemmas.List.Sums.{sum_by-cons}
use Rattle.std.proofs.lemmas.List.{map-id}
use Rattle.std.proofs.lemmas.List.FromFn.{map-range_with_len_more}
use Rattle.col_common.specs.Ascending.{is_before, is_ascending, differences}
use Rattle.col_model.specs.Limits.{cell_count}
use Rattle.col_model.specs.Table.{Cell}

-- a fact of each item and of one more
pub all_push : {A : Type 0} (P : A → Type 0) (xs : List A) (x : A) → AllByRecursion P xs → P x → AllByRecursion P (xs ++ x ∷ [])
all_push P [] x all p = (p, tt)
all_push P (y ∷ xs) x all p = (all.0, all_push P xs x all.1 p)

-- what all items of a list with one more at its end keep, the list's and the last one keep
pub all_pushed : {A : Type 0} (P : A → Type 0) (xs : List A) (x : A) → AllByRecursion P (xs ++ x ∷ []) → AllByRecursion P xs × P x
all_pushed P [] x all = (tt, all.0)
all_pushed P (y ∷ xs) x all = let later = all_pushed P xs x all.1 in ((all.0, later.0), later.1)

-- a fact of each item, on a front part and behind it
pub all_taken : (P : ℕ → Type 0) (n : ℕ) (xs : List ℕ) → AllByRecursion P xs → AllByRecursion P (take n xs)
all_taken P zero xs all = tt
all_taken P (suc n) [] all = tt
all_taken P (suc n) (x ∷ xs) all = (all.0, all_taken P n xs all.1)

-- what all items keep, those after the first n keep
pub all_dropped : (P : ℕ → Type 0) (n : ℕ) (xs : List ℕ) → AllByRecursion P xs → AllByRecursion P (drop n xs)
all_dropped P zero xs all = all
all_dropped P (suc n) [] all = tt
all_dropped P (suc n) (x ∷ xs) all = all_dropped P n xs all.1

-- what all items keep, those that pass a test keep
pub all-filter : {A : Type 0} (P : A → Type 0) (test : A → Bool) (xs : List A) → AllByRecursion P xs → AllByRecursion P (filter test xs)
all-filter P test [] all = tt
all-filter P test (x ∷ xs) all = by (test x) (all-filter P test xs all.1)
  where
    by : (b : Bool) → AllByRecursion P (filter test xs) → AllByRecursion P (cond b (x ∷ filter test xs) (filter test xs))
    by true later = (all.0, later)
    by false later = later

-- what one function makes of what another made of the items
pub map-map : {A B C : Type 0} (g : B → C) (f : A → B) (xs : List A) → map g (map f xs) ≡ map (λ x. g (f x)) xs
map-map g f [] = refl
map-map g f (x ∷ xs) = ap (λ ys. g (f x) ∷ ys) (map-map g f xs)

-- those that pass a test, of what a function made of the items
pub filter-map : {A B : Type 0} (f : A → B) (test : B → Bool) (xs : List A)
    → filter test (map f xs) ≡ map f (filter (λ x. test (f x)) xs)
filter-map f test [] = refl
filter-map {A = A} {B = B} f test (x ∷ xs) = at (test (f x)) (filter-map f test xs)
  where
    at : (t : Bool) → filter test (map f xs) ≡ map f (filter (λ x. test (f x)) xs)
        → cond t (f x ∷ filter test (map f xs)) (filter test (map f xs))
        ≡ map f (cond t (x ∷ filter (λ x. test (f x)) xs) (filter (λ x. test (f x)) xs))
    at true e = ap (λ ys. f x ∷ ys) e
    at false e = e

-- there are at most as many items that pass a test as items
pub filter-few : {A : Type 0} (test : A → Bool) (xs : List A) → length (filter test xs) ≤ length xs
filter-few test [] = omega arith
filter-few test (x ∷ xs) = by (test x) (filter-few test xs)
  where
    by : (b : Bool) → length (filter test xs) ≤ length xs → length (cond b (x ∷ filter test xs) (filter test xs)) ≤ suc (length xs)
    by true l = omega arith
    by false l = omega arith

-- a test that nothing passes keeps nothing
pub filter-none : {A : Type 0} (test : A → Bool) → ((x : A) → test x ≡ false) → (xs : List A) → filter test xs ≡ []
filter-none test none [] = refl
filter-none test none (x ∷ xs) = rw (none x) (filter-none test none xs)

-- what is found passes the test
pub find-passes : {A : Type 0} (test : A → Bool) (xs : List A) (x : A) → find test xs ≡ Some x → test x ≡ true
find-passes test [] x e = cc
find-passes test (y ∷ ys) x e = by (test y) refl e (find-passes test ys x)
  where
    by : (b : Bool) → test y ≡ b → cond b (Some y) (find test ys) ≡ Some x → (find test ys ≡ Some x → test x ≡ true) → test x ≡ true
    by true here e behind = subst (λ z. test z ≡ true) (ap (λ o. unwrap_or o x) e) here
    by false here e behind = behind e

-- the item behind others
pub slice_get-behind : {A : Type 0} (before : List A) (x : A) (rest : List A) → slice_get (before ++ x ∷ rest) (length before) ≡ Some x
slice_get-behind [] x rest = refl
slice_get-behind (y ∷ before) x rest = slice_get-behind before x rest

-- a list that isn't longer than 0
pub no-items : {A : Type 0} (xs : List A) → nat_lt 0 (length xs) ≡ false → xs ≡ []
no-items [] e = refl
no-items (x ∷ xs) e = absurd (true≢false (sym (lt-ltb 0 (suc (length xs)) (omega arith)) ∙ e))

-- n + 1 numbers have n differences
pub length-differences : (x : ℕ) (xs : List ℕ) → length (differences (x ∷ xs)) ≡ length xs
length-differences x [] = refl
length-differences x (y ∷ zs) = ap suc (length-differences y zs)

-- options that each have an item
pub filter_map-some : {A : Type 0} (xs : List A) → filter_map (λ x. x) (map Some xs) ≡ xs
filter_map-some [] = refl
filter_map-some (x ∷ xs) = ap (λ r. x ∷ r) (filter_map-some xs)

-- a sum with one more number
pub sum-cons : (k : ℕ) (ks : List ℕ) → sum (k ∷ ks) ≡ k + sum ks
sum-cons k ks = sum_by-cons (λ k. k) k ks

-- a fact of each item of two lists
pub all-two : {A : Type 0} (P : A → Type 0) (xs ys : List A) → AllByRecursion P xs → AllByRecursion P ys → AllByRecursion P (xs ++ ys)
all-two P [] ys a b = b
all-two P (x ∷ xs) ys a b = (a.0, all-two P xs ys a.1 b)

-- an item that is there
pub item-at : {A : Type 0} (xs : List A) (k : ℕ) → k < length xs → (x : A) × (slice_get xs k ≡ Some x)
item-at [] k h = absurd (omega arith)
item-at (x ∷ xs) zero h = (x, refl)
item-at (x ∷ xs) (suc k) h = item-at xs k (omega arith)

-- byte lists ascend behind the first
pub ascending-tail : (a : List ℕ) (others : List (List ℕ)) → is_ascending (a ∷ others) ≡ true → is_ascending others ≡ true
ascending-tail a [] e = refl
ascending-tail a (b ∷ bs) e = (and_parts (is_before a b) (is_ascending (b ∷ bs)) e).1

-- the cells of one more row
pub cell_count-cons : (row : List Cell) (rows : List (List Cell)) → cell_count (row ∷ rows) ≡ length row + cell_count rows
cell_count-cons row rows = sum_by-cons length row rows

-- a range with one number more
pub range-more : (a n : ℕ) → range_with_len a (n + 1) ≡ range_with_len a n ++ (a + n) ∷ []
range-more a n = sym (map-id _) ∙ map-range_with_len_more (λ k. k) a n (a + n) refl ∙ ap (λ l. l ++ (a + n) ∷ []) (map-id _)

-- the items that pass a test stand between two places
module _ {A : Type 0} (p : A → Bool) (d : A) where
  filter_none : (xs : List A) → ((j : ℕ) → j < length xs → p (get_or xs j d) ≡ false) → filter p xs ≡ []
  filter_none [] fails = refl
  filter_none (x ∷ xs) fails = rw (fails 0 (omega arith)) (filter_none xs (λ j h. fails (suc j) (omega arith)))

  filter_front : (xs : List A) (n : ℕ) → n ≤ length xs → ((j : ℕ) → j < n → p (get_or xs j d) ≡ true)
      → ((j : ℕ) → n ≤ j → j < length xs → p (get_or xs j d) ≡ false) → filter p xs ≡ take n xs
  filter_front xs zero h passes fails = filter_none xs (λ j k. fails j (omega arith) k)
  filter_front [] (suc n) h passes fails = absurd (omega arith)
  filter_front (x ∷ xs) (suc n) h passes fails =
      rw (passes 0 (omega arith)) (ap (λ ys. x ∷ ys) (filter_front xs n (omega arith)
      (λ j k. passes (suc j) (omega arith)) (λ j k l. fails (suc j) (omega arith) (omega arith))))

  -- items that pass a test from one place up to another, and nowhere else, are the run between the
  -- two
  pub filter_run : (xs : List A) (start upto : ℕ) → start ≤ upto → upto ≤ length xs
      → ((j : ℕ) → j < start → p (get_or xs j d) ≡ false)
      → ((j : ℕ) → start ≤ j → j < upto → p (get_or xs j d) ≡ true)
      → ((j : ℕ) → upto ≤ j → j < length xs → p (get_or xs j d) ≡ false)
      → filter p xs ≡ take (upto - start) (drop start xs)
  filter_run xs zero upto o h early passes fails =
      let all : upto - 0 ≡ upto = omega arith in
      rw all (filter_front xs upto h (λ j k. passes j (omega arith) k) fails)
  filter_run xs (suc start) zero o h early passes fails = absurd (omega arith)
  filter_run [] (suc start) (suc upto) o h early passes fails = absurd (omega arith)
  filter_run (x ∷ xs) (suc start) (suc upto) o h early passes fails =
      let less : suc upto - suc start ≡ upto - start = omega arith in
      rw (early 0 (omega arith), less) (filter_run xs start upto (omega arith) (omega arith)
      (λ j k. early (suc j) (omega arith)) (λ j k l. passes (suc j) (omega arith) (omega arith))
      (λ j k l. fails (suc j) (omega arith) (omega arith)))

-- two lists that belong together, with one more item each
pub zip-more : {A B : Type 0} (R : A → B → Type 0) (xs : List A) (ys : List B) (x : A) (y : B) → AllZip R xs ys
    → R x y → AllZip R (xs ++ x ∷ []) (ys ++ y ∷ [])
zip-more R [] [] x y all here = (here, tt)
zip-more R [] (w ∷ ws) x y all here = absurd all
zip-more R (w ∷ ws) [] x y all here = absurd all
zip-more R (w ∷ xs) (v ∷ ys) x y all here = (all.0, zip-more R xs ys x y all.1 here)
