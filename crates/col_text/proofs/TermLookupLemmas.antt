-- Lookups by ranges of terms, as lookups by ranges of ordinals.
use Rattle.std.proofs.Common.{◌≡◌, ℕ, zero, suc, ◌-◌, ◌<◌, ◌≤◌, ◌&&◌, ◌||◌, nat_le, nat_lt, Bool, false, List, [], ◌∷◌, length, filter, map, get_or, take, drop, refl, sym, ap, ap₂, ◌∙◌, arith}
use Rattle.std.specs.List.{All, AllByRecursion, list_any, range_with_len}
use Rattle.std.proofs.lemmas.Bool.Decides.{nat_tests}
use Rattle.std.proofs.lemmas.List.{length-map}
use Rattle.std.proofs.lemmas.List.Elements.{All-take, All-drop, filter_agree, recursion_from_All, All-from_recursion}
use Rattle.std.proofs.lemmas.List.Folds.{list_any_none}
use Rattle.std.proofs.Math.Bool.{and-false}
use Rattle.col_column.proofs.RowLemmas.{row_at-cut}
use Rattle.col_column.specs.Columns.{counts_by, rows_by, rows_of_values, row_at, content_seen}
use Rattle.col_column.specs.Lookups.{docs_passing}
use Rattle.col_model.specs.Column.{term_cell}
use Rattle.col_model.specs.Index.{Shape}
use Rattle.col_model.specs.Lookup as lookup
use Rattle.col_model.specs.Positions.{start_of}
use Rattle.col_model.specs.Table.{Cell, text}
use Rattle.col_column.specs.NumValues.{num_values_of}
use Rattle.col_values.specs.Codes.{number_cmp}
use Rattle.col_values.specs.Values as values
use Rattle.col_model.proofs.ListLaws.{filter-none}
use Rattle.col_text.specs.Texts.{Texts, AreOrdinals, StartAt, EndAt, texts_content}

-- ---- tests of the values of a row

-- tests that agree on the items of a list
any-agree : (p q : ℕ → Bool) (xs : List ℕ) → AllByRecursion (λ x. p x ≡ q x) xs → list_any p xs ≡ list_any q xs
any-agree p q [] all = refl
any-agree p q (x ∷ xs) all = ap₂ (λ a b. a || b) all.0 (any-agree p q xs all.1)

row-agree : (p q : ℕ → Bool) (s : Shape) (xs : List ℕ) → All (λ x. p x ≡ q x) xs → (d : ℕ)
    → list_any p (row_at (rows_by s xs) d) ≡ list_any q (row_at (rows_by s xs) d)
unfolding rows_by
row-agree p q s xs all d =
    let cs = counts_by s (length xs) in
    let alike : ℕ → Type 0 = λ x. p x ≡ q x in
    let count = get_or cs d 0 in
    let start = start_of cs d in
    let part = recursion_from_All alike (take count (drop start xs)) (All-take alike count (drop start xs) (All-drop alike start xs all)) in
    ap (list_any p) (row_at-cut cs xs d) ∙ any-agree p q (take count (drop start xs)) part ∙ sym (ap (list_any q) (row_at-cut cs xs d))

-- a test of the cells of a row
any-cells : (test : Cell → Bool) (cell : ℕ → Cell) (row : List ℕ) → list_any test (map cell row) ≡ list_any (λ n. test (cell n)) row
any-cells test cell [] = refl
any-cells test cell (n ∷ row) = ap (λ b. test (cell n) || b) (any-cells test cell row)

row-cells : (test : Cell → Bool) (cell : ℕ → Cell) (rows : List (List ℕ)) (d : ℕ)
    → list_any test (row_at (map (map cell) rows) d) ≡ list_any (λ n. test (cell n)) (row_at rows d)
row-cells test cell [] d = refl
row-cells test cell (row ∷ rows) zero = any-cells test cell row
row-cells test cell (row ∷ rows) (suc d) = row-cells test cell rows d

-- ---- lookups

-- a lookup by a test of values is one by a test of their cells that agrees with it
by_cells : (test : ℕ → Bool) (terms : List (List ℕ)) (cell : ℕ → Cell) (s : Shape) (xs : List ℕ) (low high : Cell)
    (from to : ℕ) → All (λ n. test n ≡ lookup.is_between low high (cell n)) xs
    → docs_passing test (rows_by s xs) from to ≡ lookup.docs_between (content_seen terms cell s xs) low high from to
unfolding docs_passing lookup.docs_between
by_cells test terms cell s xs low high from to all =
    let rows = rows_by s xs in
    let passes : ℕ → Bool = λ d. nat_le from d && nat_lt d to && list_any (lookup.is_between low high) (row_at (map (map cell) rows) d) in
    let alike : (d : ℕ) → list_any test (row_at rows d) ≡ list_any (lookup.is_between low high) (row_at (map (map cell) rows) d) =
    λ d. row-agree test (λ n. lookup.is_between low high (cell n)) s xs all d ∙ sym (row-cells (lookup.is_between low high) cell rows d)
    in
    filter_agree _ passes (λ d. ap (λ b. nat_le from d && nat_lt d to && b) (alike d)) (range_with_len 0 (length rows))
    ∙ ap (λ n. filter passes (range_with_len 0 n)) (sym (length-map rows (map cell)))

-- a test that nothing passes finds nothing
none-found : (rows : List (List ℕ)) (from to : ℕ) → docs_passing (λ n. false) rows from to ≡ []
unfolding docs_passing
none-found rows from to =
    let none : (d : ℕ) → list_any (λ (n : ℕ). false) (row_at rows d) ≡ false =
    λ d. list_any_none (λ n. false) (row_at rows d) (λ k e within. refl) in
    filter_agree _ (λ d. false)
    (λ d. ap (λ b. nat_le from d && nat_lt d to && b) (none d) ∙ and-false (nat_le from d && nat_lt d to))
    (range_with_len 0 (length rows))
    ∙ filter-none (λ d. false) (λ d. refl) (range_with_len 0 (length rows))

-- ---- ranges of terms

module _ (c : Texts) (are : AreOrdinals c.terms c.ords) (low high : List ℕ) (first end : ℕ)
    (starts : StartAt c.terms low first) (ends : EndAt c.terms high end) (from to : ℕ) where
  -- an ordinal's term lies between two keys just where the ordinal lies between their places
  abbrev tested : ℕ → Bool
  tested n = nat_le first n && nat_lt n end

  all-tested : (test : ℕ → Bool) → ((n : ℕ) → test n ≡ tested n)
      → All (λ n. test n ≡ lookup.is_between (text low) (text high) (term_cell c.terms n))
      (num_values_of c.ords.values)
  all-tested test same k d within =
      let n = get_or (num_values_of c.ords.values) k d in
      let below : n < length c.terms = All-from_recursion (λ n. n < length c.terms) (num_values_of c.ords.values) are.below k d within in
      same n ∙ sym (ap₂ (λ a b. a && b) (starts n below) (ends n below))

  by_test : (test : ℕ → Bool) → ((n : ℕ) → test n ≡ tested n)
      → docs_passing test (rows_of_values num_values_of c.ords) from to
      ≡ lookup.docs_between (texts_content c) (text low) (text high) from to
  by_test test same =
      by_cells test c.terms (term_cell c.terms) c.ords.shape (num_values_of c.ords.values) (text low) (text high)
      from to (all-tested test same)

  -- the ordinals between the places find just the rows with a term between the keys
  pub terms-found : first < end
      → docs_passing (values.is_between number_cmp first (end - 1)) (rows_of_values num_values_of c.ords) from to
      ≡ lookup.docs_between (texts_content c) (text low) (text high) from to
  terms-found some = by_test (values.is_between number_cmp first (end - 1)) (λ n. grind (arith, nat_tests))

  -- where there are none, no row has such a term
  pub no-terms-found : end ≤ first → lookup.docs_between (texts_content c) (text low) (text high) from to ≡ []
  no-terms-found none =
      sym (by_test (λ n. false) (λ n. grind (arith, nat_tests)))
      ∙ none-found (rows_of_values num_values_of c.ords) from to
