-- The cardinality of documents that never fall.
use Rattle.std.proofs.Common.{◌≡◌, ◌<◌, ◌≤◌, ℕ, zero, suc, ◌+◌, ◌-◌, List, [], ◌∷◌, length, map, sum, Bool, true, false, cond, Some, None, refl, sym, ◌∙◌, ap, arith, le-leb, lt-ltb, eq-eqb}
use Rattle.std.specs.Prelude.{nat_lt, nat_le, ◌==◌, count_by, max, unwrap_or, option_map, slice_get}
use Rattle.std.specs.List.{list_all, last_or, range_with_len}
use Rattle.std.proofs.lemmas.Bool.{and_parts, and_from, false_from_ne_true}
use Rattle.std.proofs.lemmas.List.Sums.{sum_by-cons}
use Rattle.std.proofs.lemmas.List.FromFn.{length-map-range_with_len}
use Rattle.col_common.specs.Ascending.{is_never_falling, is_rising, are_below}
use Rattle.col_model.specs.Table.{full, optional, multivalued}
use Rattle.col_index.proofs.RankLaws.{tail_rises}
use Rattle.col_writer_rows.proofs.DocumentLemmas.{last_or-found}
use Rattle.col_writer_rows.proofs.ShapeLemmas.{all_above, none_counted}
use Rattle.col_writer_rows.specs.Counted.{counts_of_rows}
use Rattle.col_writer_columns.specs.Cardinalities.{rows_up_to, cardinality_by}

-- ---- the last document

-- it is the greatest
pub last-greatest : (x : ℕ) (xs : List ℕ) → is_never_falling (x ∷ xs) ≡ true
    → (l : ℕ) × (last_or (Some x) xs ≡ Some l) × (x ≤ l) × (list_all (λ d. nat_le d l) (x ∷ xs) ≡ true)
last-greatest x [] e = let same : x ≤ x = omega arith in (x, refl, same, and_from (nat_le x x) true (le-leb _ _ same) refl)
last-greatest x (y ∷ ys) e =
    let parts = and_parts (nat_le x y) (is_never_falling (y ∷ ys)) e in
    let r = last-greatest y ys parts.1 in
    let up : x ≤ y = grind arith in
    let low : x ≤ r.0 = omega (arith, r.2) in
    (r.0, r.1, low, and_from (nat_le x r.0) _ (le-leb _ _ low) r.3)

raised : (l n : ℕ) (docs : List ℕ) → l < n → list_all (λ d. nat_le d l) docs ≡ true → are_below n docs ≡ true
raised l n [] h e = refl
raised l n (d ∷ docs) h e =
    let parts = and_parts (nat_le d l) (list_all (λ x. nat_le x l) docs) e in
    let low : d ≤ l = grind arith in
    let below : d < n = omega arith in
    and_from (nat_lt d n) _ (lt-ltb _ _ below) (raised l n docs h parts.1)

below_rows : (n : ℕ) (docs : List ℕ) → is_never_falling docs ≡ true → are_below (rows_up_to n docs) docs ≡ true
below_rows n [] e = refl
below_rows n (x ∷ xs) e =
    let r = last-greatest x xs e in
    let rows : rows_up_to n (x ∷ xs) ≡ max n (r.0 + 1) = ap (λ o. max n (unwrap_or (option_map (λ last. last + 1) o) 0)) r.1 in
    let less : r.0 < rows_up_to n (x ∷ xs) = omega (arith, rows) in
    raised r.0 (rows_up_to n (x ∷ xs)) (x ∷ xs) less r.3

-- what is found at the last place tells how many rows there are
pub rows-found : (n : ℕ) (docs : List ℕ) (k l m : ℕ) → k ≡ length docs - 1 → slice_get docs k ≡ Some l
    → m ≡ max n (l + 1) → m ≡ rows_up_to n docs
rows-found n docs k l m at found is =
    is ∙ sym (ap (λ o. max n (unwrap_or (option_map (λ last. last + 1) o) 0))
    (last_or-found None docs l (ap (slice_get docs) (sym at) ∙ found)))

-- without documents there are as many rows as were asked for
pub rows-none : (n : ℕ) (docs : List ℕ) → length docs ≡ 0 → n ≡ rows_up_to n docs
rows-none n [] e = omega arith
rows-none n (d ∷ docs) e = absurd (omega arith)

-- ---- all counts together

abbrev counts_in : ℕ → ℕ → List ℕ → List ℕ
counts_in a n docs = map (λ row. count_by (λ x. x == row) docs) (range_with_len a n)

abbrev hits : ℕ → ℕ → ℕ → List ℕ
hits a n d = map (λ row. cond (d == row) 1 0) (range_with_len a n)

no_hit : (a n d : ℕ) → d < a → sum (hits a n d) ≡ 0
no_hit a zero d h = refl
no_hit a (suc n) d h =
    let apart : (d == a) ≡ false = grind arith in
    let rest = no_hit (a + 1) n d (omega arith) in
    let none : cond (d == a) 1 0 ≡ 0 = ap {B = ℕ} (λ b. cond b 1 0) apart in
    omega (arith, sum_by-cons (λ x. x) (cond (d == a) 1 0) (hits (a + 1) n d), none, rest)

one_hit : (a n d : ℕ) → a ≤ d → d < a + n → sum (hits a n d) ≡ 1
one_hit a zero d low high = absurd (omega arith)
one_hit a (suc n) d low high =
    sum_by-cons (λ x. x) (cond (d == a) 1 0) (hits (a + 1) n d) ∙ by (d == a) refl (λ h. one_hit (a + 1) n d h (omega arith))
  where
    by : (b : Bool) → (d == a) ≡ b → (a + 1 ≤ d → sum (hits (a + 1) n d) ≡ 1) → cond b 1 0 + sum (hits (a + 1) n d) ≡ 1
    by true e later = let less : d < a + 1 = grind arith in let rest = no_hit (a + 1) n d less in omega (arith, rest)
    by false e later = let apart : a + 1 ≤ d = grind arith in let rest = later apart in omega (arith, rest)

counts-more : (a n d : ℕ) (docs : List ℕ) → sum (counts_in a n (d ∷ docs)) ≡ sum (hits a n d) + sum (counts_in a n docs)
counts-more a zero d docs = refl
counts-more a (suc n) d docs =
    let rest = counts-more (a + 1) n d docs in
    let here = sum_by-cons (λ z. cond (z == a) 1 0) d docs in
    omega (
      arith,
      rest,
      here,
      sum_by-cons (λ x. x) (count_by (λ x. x == a) (d ∷ docs)) (counts_in (a + 1) n (d ∷ docs)),
      sum_by-cons (λ x. x) (cond (d == a) 1 0) (hits (a + 1) n d),
      sum_by-cons (λ x. x) (count_by (λ x. x == a) docs) (counts_in (a + 1) n docs),
    )

counts-none : (a n : ℕ) → sum (counts_in a n []) ≡ 0
counts-none a zero = refl
counts-none a (suc n) = let rest = counts-none (a + 1) n in omega (arith, rest, sum_by-cons (λ x. x) 0 (counts_in (a + 1) n []))

-- the counts of all rows are as many as the documents
sum-counts : (n : ℕ) (docs : List ℕ) → are_below n docs ≡ true → sum (counts_in 0 n docs) ≡ length docs
sum-counts n [] e = counts-none 0 n
sum-counts n (d ∷ docs) e =
    let parts = and_parts (nat_lt d n) (are_below n docs) e in
    let less : d < 0 + n = grind arith in
    let rest = sum-counts n docs parts.1 in
    let hit = one_hit 0 n d (omega arith) less in
    omega (arith, counts-more 0 n d docs, rest, hit)

-- ---- counts of 1

-- where each is 1, the sum is how many there are
ones : (cs : List ℕ) → list_all (λ c. c == 1) cs ≡ true → sum cs ≡ length cs
ones [] e = refl
ones (c ∷ cs) e =
    let parts = and_parts (c == 1) (list_all (λ c. c == 1) cs) e in
    let one : c ≡ 1 = grind arith in
    let rest = ones cs parts.1 in omega (arith, one, rest, sum_by-cons (λ x. x) c cs)

small_sum : (cs : List ℕ) → list_all (λ c. nat_le c 1) cs ≡ true → sum cs ≤ length cs
small_sum [] e = omega arith
small_sum (c ∷ cs) e =
    let parts = and_parts (nat_le c 1) (list_all (λ c. nat_le c 1) cs) e in
    let one : c ≤ 1 = grind arith in
    let rest = small_sum cs parts.1 in omega (arith, one, rest, sum_by-cons (λ x. x) c cs)

-- where none is above 1 and the sum isn't below how many there are, each is 1
all_ones : (cs : List ℕ) → list_all (λ c. nat_le c 1) cs ≡ true → length cs ≤ sum cs → list_all (λ c. c == 1) cs ≡ true
all_ones [] e h = refl
all_ones (c ∷ cs) e h =
    let parts = and_parts (nat_le c 1) (list_all (λ c. nat_le c 1) cs) e in
    let one : c ≤ 1 = grind arith in
    let whole = sum_by-cons (λ x. x) c cs in
    let rest = small_sum cs parts.1 in
    let here : c ≡ 1 = omega (arith, one, rest, whole) in
    and_from (c == 1) _ (eq-eqb c 1 here) (all_ones cs parts.1 (omega (arith, whole, one)))

-- each 1 is at most 1
small_ones : (cs : List ℕ) → list_all (λ c. c == 1) cs ≡ true → list_all (λ c. nat_le c 1) cs ≡ true
small_ones [] e = refl
small_ones (c ∷ cs) e =
    let parts = and_parts (c == 1) (list_all (λ c. c == 1) cs) e in
    let one : c ≤ 1 = grind arith in
    and_from (nat_le c 1) _ (le-leb _ _ one) (small_ones cs parts.1)

-- ---- documents that rise are counted at most once

once : (docs : List ℕ) (row : ℕ) → is_rising docs ≡ true → count_by (λ x. x == row) docs ≤ 1
once [] row e = omega arith
once (x ∷ xs) row e = by (x == row) refl (once xs row (tail_rises x xs e))
  where
    whole : count_by (λ y. y == row) (x ∷ xs) ≡ cond (x == row) 1 0 + count_by (λ y. y == row) xs
    whole = sum_by-cons (λ z. cond (z == row) 1 0) x xs

    by : (b : Bool) → (x == row) ≡ b → count_by (λ y. y == row) xs ≤ 1 → count_by (λ y. y == row) (x ∷ xs) ≤ 1
    by true f later =
        let none : count_by (λ y. y == row) xs ≡ 0 = none_counted x row xs (grind arith) (all_above x xs e) in
        omega (arith, none, whole, ap {B = ℕ} (λ b. cond b 1 0) f)
    by false f later = omega (arith, later, whole, ap {B = ℕ} (λ b. cond b 1 0) f)

small_counts : (a n : ℕ) (docs : List ℕ) → is_rising docs ≡ true → list_all (λ c. nat_le c 1) (counts_in a n docs) ≡ true
small_counts a zero docs e = refl
small_counts a (suc n) docs e = and_from _ _ (le-leb _ _ (once docs a e)) (small_counts (a + 1) n docs e)

-- ---- documents of which none is counted twice rise

counted_later : (x row : ℕ) (xs : List ℕ) → count_by (λ z. z == row) xs ≤ count_by (λ z. z == row) (x ∷ xs)
counted_later x row xs = omega (arith, sum_by-cons (λ z. cond (z == row) 1 0) x xs)

twice : (x y : ℕ) (zs : List ℕ) → x ≡ y → 2 ≤ count_by (λ z. z == x) (x ∷ y ∷ zs)
twice x y zs e =
    let a : (x == x) ≡ true = eq-eqb x x refl in
    let b : (y == x) ≡ true = eq-eqb y x (sym e) in
    let first = sum_by-cons (λ z. cond (z == x) 1 0) x (y ∷ zs) ∙ ap (λ t. cond t 1 0 + count_by (λ z. z == x) (y ∷ zs)) a in
    let second = sum_by-cons (λ z. cond (z == x) 1 0) y zs ∙ ap (λ t. cond t 1 0 + count_by (λ z. z == x) zs) b in
    omega (arith, first, second)

few-rises : (n : ℕ) (docs : List ℕ) → is_never_falling docs ≡ true → are_below n docs ≡ true
    → ((row : ℕ) → row < n → count_by (λ z. z == row) docs ≤ 1) → is_rising docs ≡ true
few-rises n [] fall below few = refl
few-rises n (x ∷ []) fall below few = refl
few-rises n (x ∷ y ∷ zs) fall below few =
    let parts = and_parts (nat_le x y) (is_never_falling (y ∷ zs)) fall in
    let here = and_parts (nat_lt x n) (are_below n (y ∷ zs)) below in
    let low : x < n = grind arith in
    let apart : x ≡ y → ⊥ = λ e. omega (arith, twice x y zs e, few x low) in
    let up : x ≤ y = grind arith in
    let less : x < y = omega (arith, apart) in
    and_from (nat_lt x y) (is_rising (y ∷ zs)) (lt-ltb _ _ less)
    (few-rises n (y ∷ zs) parts.1 here.1 (λ row l. omega (arith, counted_later x row (y ∷ zs), few row l)))

count_at : (a n : ℕ) (docs : List ℕ) → list_all (λ c. nat_le c 1) (counts_in a n docs) ≡ true → (row : ℕ) → a ≤ row
    → row < a + n → count_by (λ z. z == row) docs ≤ 1
count_at a zero docs e row low high = absurd (omega arith)
count_at a (suc n) docs e row low high =
    let parts = and_parts (nat_le (count_by (λ z. z == a) docs) 1) (list_all (λ c. nat_le c 1) (counts_in (a + 1) n docs)) e in
    by (row == a) refl parts.0 (λ h. count_at (a + 1) n docs parts.1 row h (omega arith))
  where
    by : (b : Bool) → (row == a) ≡ b → nat_le (count_by (λ z. z == a) docs) 1 ≡ true
        → (a + 1 ≤ row → count_by (λ z. z == row) docs ≤ 1) → count_by (λ z. z == row) docs ≤ 1
    by true f here later =
        let same : row ≡ a = grind arith in let one : count_by (λ z. z == a) docs ≤ 1 = grind arith in omega
        (arith, one, ap (λ r. count_by (λ z. z == r) docs) same)
    by false f here later = let up : a + 1 ≤ row = grind arith in later up

-- ---- the three ways

by_tests : (n : ℕ) (docs : List ℕ) (a b : Bool) → list_all (λ c. c == 1) (counts_of_rows (rows_up_to n docs) docs) ≡ a
    → list_all (λ c. nat_le c 1) (counts_of_rows (rows_up_to n docs) docs) ≡ b
    → cardinality_by n docs ≡ cond a full (cond b optional multivalued)
by_tests n docs a b e f = λ i. cond (e i) full (cond (f i) optional multivalued)

-- documents that never fall, and don't rise, are Multivalued
pub is-multivalued : (n : ℕ) (docs : List ℕ) → is_never_falling docs ≡ true → is_rising docs ≡ false → multivalued ≡ cardinality_by n docs
unfolding counts_of_rows
is-multivalued n docs fall e =
    let m = rows_up_to n docs in
    let many : list_all (λ c. nat_le c 1) (counts_in 0 m docs) ≡ false =
    false_from_ne_true _ (λ small. let rises = few-rises m docs fall (below_rows n docs fall)
    (λ row l. count_at 0 m docs small row (omega arith) (omega arith)) in let no : false ≡ true = sym e ∙ rises
    in cc) in
    let no_ones : list_all (λ c. c == 1) (counts_in 0 m docs) ≡ false =
    false_from_ne_true _ (λ one. let no : false ≡ true = sym many ∙ small_ones (counts_in 0 m docs) one in cc) in
    sym (by_tests n docs false false no_ones many)

-- documents that rise and are fewer than the rows are Optional
pub is-optional : (n : ℕ) (docs : List ℕ) → is_never_falling docs ≡ true → is_rising docs ≡ true
    → length docs < rows_up_to n docs → optional ≡ cardinality_by n docs
unfolding counts_of_rows
is-optional n docs fall e few =
    let m = rows_up_to n docs in
    let total = sum-counts m docs (below_rows n docs fall) in
    let long = length-map-range_with_len (λ row. count_by (λ x. x == row) docs) 0 m in
    let no_ones : list_all (λ c. c == 1) (counts_in 0 m docs) ≡ false =
    false_from_ne_true _ (λ one. let same = ones (counts_in 0 m docs) one in omega (arith, same, total, long, few)) in
    sym (by_tests n docs false true no_ones (small_counts 0 m docs e))

-- documents that rise and are as many as the rows are Full
pub is-full : (n : ℕ) (docs : List ℕ) → is_never_falling docs ≡ true → is_rising docs ≡ true
    → rows_up_to n docs ≤ length docs → full ≡ cardinality_by n docs
unfolding counts_of_rows
is-full n docs fall e many =
    let m = rows_up_to n docs in
    let total = sum-counts m docs (below_rows n docs fall) in
    let long = length-map-range_with_len (λ row. count_by (λ x. x == row) docs) 0 m in
    let small = small_counts 0 m docs e in
    sym (by_tests n docs true true (all_ones (counts_in 0 m docs) small (omega (arith, total, long, many))) small)
