-- The rows of the positions that a lookup in the values finds.
use Rattle.std.proofs.Common.{◌≡◌, ◌⊎◌, ◌∙◌, ℕ, zero, suc, ◌+◌, ◌-◌, ◌<◌, ◌≤◌, ◌&&◌, ◌||◌, nat_lt, nat_le, min, max, Bool, true, false, cond, List, [], ◌∷◌, length, filter, take, drop, sum, get_or, replicate, slice_get, Option, Some, None, refl, sym, ap, inl, inr, arith}
use Rattle.std.specs.List.{list_all, list_any, range_with_len}
use Rattle.std.proofs.lemmas.Bool.{lt-ltb, le-leb, cases_lt}
use Rattle.std.proofs.lemmas.Bool.Decides.{nat_tests}
use Rattle.std.proofs.lemmas.List.{length-replicate}
use Rattle.std.proofs.lemmas.Option.{slice_get_cases}
use Rattle.std.proofs.lemmas.List.Elements.{filter_agree}
use Rattle.std.proofs.Math.Bool.{or-false}
use Rattle.col_common.proofs.OrderingLemmas.{filtered_rises}
use Rattle.col_common.specs.Ascending.{is_rising, are_below}
use Rattle.col_model.specs.Dictionary.{cut}
use Rattle.col_model.specs.Index.{Shape, empty_shape, full_shape, optional_shape, multivalued_shape}
use Rattle.col_model.specs.Positions.{start_of, start_in, is_in_row, rows_at, rows_in}
use Rattle.col_indexer.specs.Offsets.{AreInside}
use Rattle.col_values.specs.Values.{passes, hits, span}
use Rattle.col_values.proofs.HitLemmas.{front_value}
use Rattle.col_model.proofs.ListLaws.{filter-none}
use Rattle.col_column.specs.Columns.{IsCounted, rows_by, row_at}
use Rattle.col_column.specs.Lookups.{docs_passing}
use Rattle.col_column.proofs.RowLemmas.{one, single, row-empty, row_at-cut, length-cut, start-next, start-monotone, start-within, end-within}

-- ---- tests of the items of a range

-- whether a list has an item
abbrev some : List ℕ → Bool
some [] = false
some (x ∷ xs) = true

any-some : (f : ℕ → Bool) (xs : List ℕ) → list_any f xs ≡ some (filter f xs)
any-some f [] = refl
any-some f (x ∷ xs) = by (f x) (any-some f xs)
  where
    by : (b : Bool) → list_any f xs ≡ some (filter f xs) → (b || list_any f xs) ≡ some (cond b (x ∷ filter f xs) (filter f xs))
    by true e = refl
    by false e = e

-- a test of those that pass another one
any-filter : (f g : ℕ → Bool) (xs : List ℕ) → list_any f (filter g xs) ≡ list_any (λ x. g x && f x) xs
any-filter f g [] = refl
any-filter f g (x ∷ xs) = by (g x) (any-filter f g xs)
  where
    by : (b : Bool) → list_any f (filter g xs) ≡ list_any (λ x. g x && f x) xs
        → list_any f (cond b (x ∷ filter g xs) (filter g xs)) ≡ ((b && f x) || list_any (λ x. g x && f x) xs)
    by true e = ap (λ c. f x || c) e
    by false e = e

any-agree : (f g : ℕ → Bool) → ((x : ℕ) → f x ≡ g x) → (xs : List ℕ) → list_any f xs ≡ list_any g xs
any-agree f g same [] = refl
any-agree f g same (x ∷ xs) = λ i. same x i || any-agree f g same xs i

-- the numbers from a on, n of them, that lie from a place up to another and pass a test
abbrev between : (ℕ → Bool) → ℕ → ℕ → ℕ → ℕ → List ℕ
between test from to a n = filter (λ d. nat_le from d && nat_lt d to && test d) (range_with_len a n)

outside : (b : Bool) (from to d : ℕ) → (from ≤ d → to ≤ d) → (nat_le from d && nat_lt d to && b) ≡ false
outside true from to d out = grind (arith, nat_tests)
outside false from to d out = grind (arith, nat_tests)

inside : (b : Bool) (from to d : ℕ) → from ≤ d → d < to → (nat_le from d && nat_lt d to && b) ≡ b
inside b from to d from_here below = rw (le-leb from d from_here, lt-ltb d to below) refl

-- the numbers between the places, by their count
between-span : (test : ℕ → Bool) (from to a n : ℕ)
    → between test from to a n ≡ filter test (range_with_len (max a from) (min to (a + n) - max a from))
between-span test from to a zero = let none : min to (a + 0) - max a from ≡ 0 = omega arith in rw none refl
between-span test from to a (suc n) = by (cases_lt a from) (cases_lt a to) (between-span test from to (a + 1) n)
  where
    by : (a < from) ⊎ (from ≤ a) → (a < to) ⊎ (to ≤ a)
        → between test from to (a + 1) n
        ≡ filter test (range_with_len (max (a + 1) from) (min to (a + 1 + n) - max (a + 1) from))
        → between test from to a (suc n)
        ≡ filter test (range_with_len (max a from) (min to (a + suc n) - max a from))
    by (inl before) _ rest =
        let start : max (a + 1) from ≡ max a from = omega arith in
        let count : min to (a + 1 + n) - max a from ≡ min to (a + suc n) - max a from = omega arith in
        rw (outside (test a) from to a (λ h. omega arith), rest, start, count) refl
    by (inr from_here) (inl below) rest =
        let start : max a from ≡ a = omega arith in
        let next : max (a + 1) from ≡ a + 1 = omega arith in
        let count : min to (a + suc n) - a ≡ suc (min to (a + 1 + n) - (a + 1)) = omega arith in
        rw (inside (test a) from to a from_here below, rest, start, next, count) refl
    by (inr from_here) (inr past) rest =
        let none : min to (a + suc n) - max a from ≡ 0 = omega arith in
        let none_next : min to (a + 1 + n) - max (a + 1) from ≡ 0 = omega arith in
        rw (outside (test a) from to a (λ h. past), rest, none, none_next) refl

any-between : (h : ℕ → Bool) (s e a n : ℕ)
    → list_any (λ p. nat_le s p && nat_lt p e && h p) (range_with_len a n)
    ≡ list_any h (range_with_len (max a s) (min e (a + n) - max a s))
any-between h s e a n =
    any-some (λ p. nat_le s p && nat_lt p e && h p) (range_with_len a n) ∙ ap some (between-span h s e a n)
    ∙ sym (any-some h (range_with_len (max a s) (min e (a + n) - max a s)))

last_first : (x y z : Bool) → (x && (y && z)) ≡ (y && z && x)
last_first true true true = refl
last_first true true false = refl
last_first true false true = refl
last_first true false false = refl
last_first false true true = refl
last_first false true false = refl
last_first false false true = refl
last_first false false false = refl

-- ---- a row's values, by their positions

module _ {T : Type 0} (test : T → Bool) (xs : List T) where
  -- a position whose value passes
  abbrev hit : ℕ → Bool
  hit p = passes test (slice_get xs p)

  any-row : (s k : ℕ) → s + k ≤ length xs → list_any test (take k (drop s xs)) ≡ list_any hit (range_with_len s k)
  any-row s zero within = refl
  any-row s (suc k) within = by (slice_get_cases xs s).1 (any-row (s + 1) k)
    where
      by : ((x : T) × (s < length xs) × (slice_get xs s ≡ Some x) × (get_or xs s x ≡ x))
          ⊎ ((length xs ≤ s) × (slice_get xs s ≡ None))
          → (s + 1 + k ≤ length xs
          → list_any test (take k (drop (s + 1) xs)) ≡ list_any hit (range_with_len (s + 1) k))
          → list_any test (take (suc k) (drop s xs)) ≡ list_any hit (range_with_len s (suc k))
      by (inl f) rest = rw (front_value xs s f.0 f.2 f.1, f.2) (ap (λ b. test f.0 || b) (rest (omega arith)))
      by (inr past) rest = absurd (omega (arith, past.0))

  -- the positions that a lookup in the values of some rows finds
  abbrev found : ℕ → ℕ → List ℕ
  found start end = hits test xs start (span (length xs) start end)

  module _ (cs : List ℕ) (all : sum cs ≡ length xs) (from to : ℕ) where
    abbrev a : ℕ
    a = start_of cs from

    abbrev b : ℕ
    b = start_of cs (max from to)

    abbrev n : ℕ
    n = span (length xs) a b

    -- a row has a position that was found exactly where it is one of the rows and has a value that passes
    one_row : (row : ℕ) → list_any (λ p. is_in_row cs p row) (found a b)
        ≡ (nat_le from row && nat_lt row to && list_any test (row_at (cut cs xs) row))
    unfolding hits
    one_row row =
        any-filter (λ p. is_in_row cs p row) hit (range_with_len a n)
        ∙ any-agree _ _ (λ p. last_first (hit p) (nat_le s p) (nat_lt p e)) (range_with_len a n)
        ∙ any-between hit s e a n ∙ by (cases_lt row from) (cases_lt row to)
        ∙ ap (λ xs. nat_le from row && nat_lt row to && list_any test xs) (sym (row_at-cut cs xs row))
      where
        s : ℕ
        s = start_of cs row

        e : ℕ
        e = start_of cs (row + 1)

        c : ℕ
        c = get_or cs row 0

        ends : ℕ
        ends = min e (a + n) - max a s

        values : List T
        values = take c (drop s xs)

        by : (row < from) ⊎ (from ≤ row) → (row < to) ⊎ (to ≤ row)
            → list_any hit (range_with_len (max a s) ends)
            ≡ (nat_le from row && nat_lt row to && list_any test values)
        by (inl before) _ =
            let up = start-monotone cs (row + 1) from (omega arith) in
            let none : ends ≡ 0 = omega arith in
            ap (λ k. list_any hit (range_with_len (max a s) k)) none ∙ sym (outside (list_any test values) from to row (λ h. omega arith))
        by (inr after) (inr past) =
            let up = start-monotone cs (max from to) row (omega arith) in
            let none : ends ≡ 0 = omega arith in
            ap (λ k. list_any hit (range_with_len (max a s) k)) none ∙ sym (outside (list_any test values) from to row (λ h. past))
        by (inr after) (inl below) =
            let low = start-monotone cs from row after in
            let high = start-monotone cs (row + 1) (max from to) (omega arith) in
            let top = start-within cs (max from to) in
            let next = start-next cs row in
            let start : max a s ≡ s = omega arith in
            let count : ends ≡ c = omega arith in
            (λ i. list_any hit (range_with_len (start i) (count i))) ∙ sym (any-row s c (omega (arith, end-within cs row)))
            ∙ sym (inside (list_any test values) from to row after below)

    counted_lookup : rows_at cs (found a b) ≡ docs_passing test (cut cs xs) from to
    unfolding docs_passing
    counted_lookup =
        filter_agree (λ row. list_any (λ p. is_in_row cs p row) (found a b)) _ one_row (range_with_len 0 (length cs))
        ∙ ap (λ n. filter (λ row. nat_le from row && nat_lt row to && list_any test (row_at (cut cs xs) row))
        (range_with_len 0 n)) (sym (length-cut cs xs))

-- ---- the same by the shape

fails : (b c : Bool) → (b && c && false) ≡ false
fails true true = refl
fails true false = refl
fails false c = refl

module _ {T : Type 0} (test : T → Bool) (xs : List T) (from to : ℕ) where
  empty_lookup : (m : ℕ) → [] ≡ docs_passing test (cut (replicate m 0) xs) from to
  unfolding docs_passing
  empty_lookup m =
      sym (filter-none _ (λ d. ap (λ xs. nat_le from d && nat_lt d to && list_any test xs) (row-empty m xs d)
      ∙ fails (nat_le from d) (nat_lt d to)) (range_with_len 0 (length (cut (replicate m 0) xs))))

  full_lookup : found test xs from (max from to) ≡ docs_passing test (cut (replicate (length xs) 1) xs) from to
  unfolding docs_passing hits
  full_lookup =
      let start : max 0 from ≡ from = omega arith in
      let count : min to (0 + length xs) - max 0 from ≡ min (max from to) (length xs) - from = omega arith in
      let long : length (cut (replicate (length xs) 1) xs) ≡ length xs =
      length-cut (replicate (length xs) 1) xs ∙ length-replicate (length xs) 1 in
      let row : (d : ℕ) → hit test xs d ≡ list_any test (row_at (cut (replicate (length xs) 1) xs) d) =
      λ d. by (slice_get xs d) ∙ ap (list_any test) (sym (single xs d)) in
      (λ i. filter (hit test xs) (range_with_len (sym start i) (sym count i)))
      ∙ sym (between-span (hit test xs) from to 0 (length xs))
      ∙ filter_agree _ _ (λ d. ap (λ b. nat_le from d && nat_lt d to && b) (row d)) (range_with_len 0 (length xs))
      ∙ ap (λ n. filter
      (λ d. nat_le from d && nat_lt d to && list_any test (row_at (cut (replicate (length xs) 1) xs) d))
      (range_with_len 0 n)) (sym long)
    where
      by : (o : Option T) → passes test o ≡ list_any test (one o)
      by None = refl
      by (Some x) = sym (or-false (test x))

-- The rows of what a lookup in the values of a range of rows finds are the rows of the range that have a value that passes.
pub lookup : {T : Type 0} (test : T → Bool) (s : Shape) (xs : List T) (from to : ℕ) → IsCounted s (length xs)
    → rows_in s (found test xs (start_in s from) (start_in s (max from to)))
    ≡ docs_passing test (rows_by s xs) from to
unfolding rows_by
lookup test (empty_shape m) xs from to none = empty_lookup test xs from to m
lookup test full_shape xs from to any = full_lookup test xs from to
lookup test (optional_shape cs) xs from to all = counted_lookup test xs cs all from to
lookup test (multivalued_shape cs) xs from to all = counted_lookup test xs cs all from to

-- ---- what the index asks of positions

all-kept : (test g : ℕ → Bool) (a n : ℕ) → ((p : ℕ) → a ≤ p → p < a + n → test p ≡ true)
    → list_all test (filter g (range_with_len a n)) ≡ true
all-kept test g a zero passes = refl
all-kept test g a (suc n) passes =
    by (g a) (passes a (omega arith) (omega arith))
    (all-kept test g (a + 1) n (λ p from below. passes p (omega arith) (omega arith)))
  where
    by : (b : Bool) → test a ≡ true → list_all test (filter g (range_with_len (a + 1) n)) ≡ true
        → list_all test (cond b (a ∷ filter g (range_with_len (a + 1) n)) (filter g (range_with_len (a + 1) n)))
        ≡ true
    by true here rest = rw (here, rest) refl
    by false here rest = rest

module _ {T : Type 0} (test : T → Bool) (xs : List T) (start end : ℕ) where
  -- the positions that are found rise
  pub found_rise : is_rising (found test xs start end) ≡ true
  unfolding hits
  found_rise = filtered_rises (hit test xs) start (span (length xs) start end)

  -- no position that is found is before the start
  pub found_from : list_all (λ p. nat_le start p) (found test xs start end) ≡ true
  unfolding hits
  found_from = all-kept (λ p. nat_le start p) (hit test xs) start (span (length xs) start end) (λ p from below. le-leb start p from)

  found_below : (count : ℕ) → count ≡ length xs → are_below count (found test xs start end) ≡ true
  unfolding hits
  found_below count is =
      all-kept (λ p. nat_lt p count) (hit test xs) start (span (length xs) start end)
      (λ p from below. lt-ltb p count (omega arith))

  found_none : length xs ≡ 0 → length (found test xs start end) ≡ 0
  unfolding hits
  found_none none =
      (let k : span (length xs) start end ≡ 0 = omega arith in ap
      (λ n. length (filter (hit test xs) (range_with_len start n))) k)

  -- each position that is found is one of those that the shape counts
  pub found_inside : (s : Shape) → IsCounted s (length xs) → AreInside s (found test xs start end)
  found_inside (empty_shape m) none = found_none none
  found_inside full_shape any = tt
  found_inside (optional_shape cs) all = found_below (sum cs) all
  found_inside (multivalued_shape cs) all = found_below (sum cs) all

-- the documents that are found strictly rise
pub docs_rise : {T : Type 0} (test : T → Bool) (rows : List (List T)) (from to : ℕ) → is_rising (docs_passing test rows from to) ≡ true
unfolding docs_passing
docs_rise test rows from to = filtered_rises _ 0 (length rows)
