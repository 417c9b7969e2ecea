-- What the greatest cardinality of segments tells of their rows.
use Rattle.std.proofs.Common.{◌≡◌, ℕ, zero, suc, ◌+◌, ◌≤◌, ◌==◌, nat_lt, nat_le, Bool, true, false, cond, List, [], ◌∷◌, length, map, slice_index_or, zip, find, fold, replicate, unwrap_or, option_map, Option, Some, refl, sym, ap, subst, ◌∙◌, arith}
use Rattle.std.specs.List.{AllByRecursion, list_all, range_with_len}
use Rattle.std.specs.Cmp.Lexicographic.{pointwise}
use Rattle.std.proofs.lemmas.Bool.{and_parts, and_from, eqb-true, ltb-true}
use Rattle.std.proofs.lemmas.Bool.Decides.{nat_tests}
use Rattle.std.proofs.lemmas.List.{length-map}
use Rattle.std.proofs.lemmas.List.Folds.{list_all-append}
use Rattle.col_model.specs.Index.{count_beside, empty_shape}
use Rattle.col_model.specs.Merge.{greater_cardinality}
use Rattle.col_model.specs.Positions.{picked_counts, count_in}
use Rattle.col_model.specs.Order.{all_rows}
use Rattle.col_model.specs.Table.{Cardinality, full, optional, cardinality_code}
use Rattle.col_indexer.specs.Counted.{counts_in}
use Rattle.col_index.specs.Indexes.{shape_of}
use Rattle.col_indexer.specs.Merged.{is_over, FitSegments, stacked_cardinality_of}
use Rattle.col_index.specs.Offsets.{cardinality_in}
use Rattle.col_indexer.specs.Stacks.{index_segments}
use Rattle.col_index.specs.declared.column_index.ColumnIndex.{ColumnIndex}
use Rattle.col_index.specs.declared.column_index.ColumnIndex.TheVariants.{Empty, Full, Optional, Multivalued}
use Rattle.col_indexer.proofs.SegmentLemmas.{joined, stacked-joined}
use Rattle.col_indexer.proofs.UniformLemmas.{same_counts}

-- ---- no segment allows more than the greatest

-- neither allows more than the greater
above : (a b : Cardinality)
    → (cardinality_code a ≤ cardinality_code (greater_cardinality a b))
    × (cardinality_code b ≤ cardinality_code (greater_cardinality a b))
above a b = go (nat_lt (cardinality_code a) (cardinality_code b)) refl
  where
    go : (test : Bool) → nat_lt (cardinality_code a) (cardinality_code b) ≡ test
        → (cardinality_code a ≤ cardinality_code (cond test b a))
        × (cardinality_code b ≤ cardinality_code (cond test b a))
    go true e = let up = ltb-true (cardinality_code a) (cardinality_code b) e in (omega arith, omega arith)
    go false e = let up : cardinality_code b ≤ cardinality_code a = grind (arith, nat_tests) in (omega arith, omega arith)

-- the code of the cardinality of an index
abbrev code_of : ColumnIndex → ℕ
code_of i = cardinality_code (cardinality_in (shape_of i))

-- the first is no greater than the greatest
greatest-start : (a : Cardinality) (cs : List Cardinality) → cardinality_code a ≤ cardinality_code (fold greater_cardinality a cs)
greatest-start a [] = omega arith
greatest-start a (c ∷ cs) = omega (arith, (above a c).0, greatest-start (greater_cardinality a c) cs)

-- nor is any other
greatest-all : (a : Cardinality) (indexes : List ColumnIndex)
    → AllByRecursion
    (λ i. code_of i ≤ cardinality_code (fold greater_cardinality a (map cardinality_in (map shape_of indexes))))
    indexes
greatest-all a [] = tt
greatest-all a (i ∷ indexes) =
    let next = greater_cardinality a (cardinality_in (shape_of i)) in (
      omega (
        arith,
        (above a (cardinality_in (shape_of i))).1,
        greatest-start next (map cardinality_in (map shape_of indexes)),
      ),
      greatest-all next indexes,
    )

-- ---- the counts of a segment

-- a number that passes passes many times
all_same : (test : ℕ → Bool) (c n : ℕ) → test c ≡ true → list_all test (replicate n c) ≡ true
all_same test c zero e = refl
all_same test c (suc n) e = and_from (test c) (list_all test (replicate n c)) e (all_same test c n e)

-- rows with the same number of values pass as it does
same_pass : (test : ℕ → Bool) (c n : ℕ) → test c ≡ true → list_all test (map (λ row. c) (range_with_len 0 n)) ≡ true
same_pass test c n e = ap (list_all test) (same_counts c 0 n) ∙ all_same test c n e

-- a 1 in front changes nothing
one_of : (test : Bool) (r : ℕ) (later : Option (ℕ × ℕ))
    → nat_le (unwrap_or (option_map (λ (p : ℕ × ℕ). p.1) later) 0) 1 ≡ true
    → nat_le (unwrap_or (option_map (λ (p : ℕ × ℕ). p.1) (cond test (Some (r, 1)) later)) 0) 1 ≡ true
one_of true r later e = refl
one_of false r later e = e

-- beside each row stands at most 1
beside_one : (rows : List ℕ) (k row : ℕ) → nat_le (count_beside (zip rows (replicate k 1)) row) 1 ≡ true
beside_one [] k row = refl
beside_one (r ∷ rows) zero row = refl
beside_one (r ∷ rows) (suc k) row =
    one_of (r == row) r (find (λ (p : ℕ × ℕ). p.0 == row) (zip rows (replicate k 1))) (beside_one rows k row)

-- so rows of a set have at most one value
few_beside : (rows : List ℕ) (k a n : ℕ)
    → list_all (λ c. nat_le c 1) (map (count_beside (zip rows (replicate k 1))) (range_with_len a n)) ≡ true
few_beside rows k a zero = refl
few_beside rows k a (suc n) = and_from _ _ (beside_one rows k a) (few_beside rows k (a + 1) n)

-- no segment up to Optional has a row with more values
few_in : (n : ℕ) (i : ColumnIndex) → code_of i ≤ 1 → list_all (λ c. nat_le c 1) (counts_in n (shape_of i)) ≡ true
few_in n (Empty m) h = same_pass (λ c. nat_le c 1) 0 n refl
few_in n Full h = same_pass (λ c. nat_le c 1) 1 n refl
few_in n (Optional s) h = few_beside s.rows (length s.rows) 0 s.num_rows
few_in n (Multivalued i) h = absurd (omega arith)

-- a segment without values counts as Full only without rows
no_rows : (m : ℕ) → cardinality_code (cond (m == 0) full optional) ≤ 0 → m ≡ 0
no_rows m h = go (m == 0) refl h
  where
    go : (test : Bool) → (m == 0) ≡ test → cardinality_code (cond test full optional) ≤ 0 → m ≡ 0
    go true e h = eqb-true m 0 e
    go false e h = absurd (omega arith)

-- a Full segment has one value in each row
ones_in : (n : ℕ) (i : ColumnIndex) → code_of i ≤ 0 → is_over n (shape_of i) ≡ true
    → list_all (λ c. c == 1) (counts_in n (shape_of i)) ≡ true
ones_in n (Empty m) h e =
    let none : n ≡ 0 = sym (eqb-true m n e) ∙ no_rows m h in
    ap (λ k. list_all (λ c. c == 1) (map (λ row. 0) (range_with_len 0 k))) none
ones_in n Full h e = same_pass (λ c. c == 1) 1 n refl
ones_in n (Optional s) h e = absurd (omega arith)
ones_in n (Multivalued i) h e = absurd (omega arith)

-- ---- the counts of all segments

-- segments up to Optional have at most one value in each row
few_joined : (counts : List ℕ) (indexes : List ColumnIndex) → AllByRecursion (λ i. code_of i ≤ 1) indexes
    → list_all (λ c. nat_le c 1) (joined counts (map shape_of indexes)) ≡ true
few_joined [] indexes h = refl
few_joined (n ∷ counts) [] h = refl
few_joined (n ∷ counts) (i ∷ indexes) h =
    list_all-append (λ c. nat_le c 1) (counts_in n (shape_of i)) (joined counts (map shape_of indexes))
    ∙ and_from _ _ (few_in n i h.0) (few_joined counts indexes h.1)

-- Full segments have one value in each row
ones_joined : (counts : List ℕ) (indexes : List ColumnIndex) → AllByRecursion (λ i. code_of i ≤ 0) indexes
    → FitSegments counts (map shape_of indexes)
    → list_all (λ c. c == 1) (joined counts (map shape_of indexes)) ≡ true
ones_joined [] indexes h fit = refl
ones_joined (n ∷ counts) [] h fit = refl
ones_joined (n ∷ counts) (i ∷ indexes) h fit =
    let parts = and_parts (is_over n (shape_of i)) (pointwise is_over counts (map shape_of indexes)) fit in
    list_all-append (λ c. c == 1) (counts_in n (shape_of i)) (joined counts (map shape_of indexes))
    ∙ and_from _ _ (ones_in n i h.0 parts.0) (ones_joined counts indexes h.1 parts.1)

module _ (counts : List ℕ) (indexes : List ColumnIndex) (fit : FitSegments counts (map shape_of indexes)) where
  -- no segment is above the greatest
  at_most : (k : ℕ) → cardinality_code (stacked_cardinality_of (map shape_of indexes)) ≡ k → AllByRecursion (λ i. code_of i ≤ k) indexes
  at_most k e = subst (λ m. AllByRecursion (λ i. code_of i ≤ m) indexes) e (greatest-all full indexes)

  -- Full: each row has one value
  pub stacked-ones : full ≡ stacked_cardinality_of (map shape_of indexes)
      → list_all (λ c. c == 1) (picked_counts (map shape_of indexes) (all_rows counts)) ≡ true
  stacked-ones e =
      ap (list_all (λ c. c == 1)) (stacked-joined (index_segments indexes counts) fit)
      ∙ ones_joined counts indexes (at_most 0 (ap cardinality_code (sym e))) fit

  -- Optional: each row has at most one
  pub stacked-few : optional ≡ stacked_cardinality_of (map shape_of indexes)
      → list_all (λ c. nat_le c 1) (picked_counts (map shape_of indexes) (all_rows counts)) ≡ true
  stacked-few e =
      ap (list_all (λ c. nat_le c 1)) (stacked-joined (index_segments indexes counts) fit)
      ∙ few_joined counts indexes (at_most 1 (ap cardinality_code (sym e)))

  -- a count for each row
  pub length-stacked : length (all_rows counts) ≡ length (picked_counts (map shape_of indexes) (all_rows counts))
  unfolding picked_counts
  length-stacked =
      sym (length-map (all_rows counts)
      (λ (p : ℕ × ℕ). count_in (slice_index_or (map shape_of indexes) p.0 (empty_shape 0)) p.1))
