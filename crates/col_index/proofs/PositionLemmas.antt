-- Rows and the positions of their values, where each row has at most one.
use Rattle.std.proofs.Common.{◌≡◌, ℕ, ◌++◌, ◌==◌, not, cond, Bool, true, false, List, [], ◌∷◌, map, get_or, refl, sym, ap, ◌∙◌}
use Rattle.std.specs.List.{range_with_len}
use Rattle.std.proofs.lemmas.List.{append-nil}
use Rattle.col_model.specs.Index.{RowSet, empty_shape, full_shape, optional_shape, set_counts}
use Rattle.col_model.specs.Positions.{rank}
use Rattle.col_index.specs.Offsets.{positions_of_rows, found_rows, positions_of}
use Rattle.col_index.specs.Sets.{AreRows, holds, held, held_ranks}
use Rattle.col_index.proofs.CountLaws.{set_counts-start, set_counts-at}

-- rows beside a number each
abbrev beside : (ℕ → ℕ) → List ℕ → List (ℕ × ℕ)
beside f docs = map (λ d. (d, f d)) docs

-- a row beside numbers
abbrev runs : ℕ → List ℕ → List (ℕ × ℕ)
runs d ps = map (λ p. (d, p)) ps

-- the rows, and the numbers
docs-beside : (f : ℕ → ℕ) (docs : List ℕ) → found_rows (beside f docs) ≡ docs
docs-beside f [] = refl
docs-beside f (d ∷ docs) = ap (λ more. d ∷ more) (docs-beside f docs)

positions-beside : (f : ℕ → ℕ) (docs : List ℕ) → positions_of (beside f docs) ≡ map f docs
positions-beside f [] = refl
positions-beside f (d ∷ docs) = ap (λ more. f d ∷ more) (positions-beside f docs)

-- where no row has a value
positions-empty : (n : ℕ) (docs : List ℕ) → positions_of_rows (empty_shape n) docs ≡ []
unfolding positions_of_rows
positions-empty n [] = refl
positions-empty n (d ∷ docs) = positions-empty n docs

-- rows that have no values find none
pub empty-docs : (n : ℕ) (docs front : List ℕ) → front ≡ front ++ found_rows (positions_of_rows (empty_shape n) docs)
empty-docs n docs front = sym (ap (λ ps. front ++ found_rows ps) (positions-empty n docs) ∙ append-nil front)

-- rows that have no values have no positions
pub empty-positions : (n : ℕ) (docs front : List ℕ) → front ≡ front ++ positions_of (positions_of_rows (empty_shape n) docs)
empty-positions n docs front = sym (ap (λ ps. front ++ positions_of ps) (positions-empty n docs) ∙ append-nil front)

-- where each row has one
positions-full : (docs : List ℕ) → positions_of_rows full_shape docs ≡ beside (λ d. d) docs
unfolding positions_of_rows
positions-full [] = refl
positions-full (d ∷ docs) = ap (λ more. (d, d) ∷ more) (positions-full docs)

-- rows that all have one value are all found
pub full-docs : (docs : List ℕ) → found_rows (positions_of_rows full_shape docs) ≡ docs
full-docs docs = ap found_rows (positions-full docs) ∙ docs-beside (λ d. d) docs

-- rows that all have one value have their own numbers as positions
pub full-positions : (docs : List ℕ) → positions_of (positions_of_rows full_shape docs) ≡ docs
full-positions docs = ap positions_of (positions-full docs) ∙ positions-beside (λ d. d) docs ∙ same docs
  where
    same : (docs : List ℕ) → map (λ d. d) docs ≡ docs
    same [] = refl
    same (d ∷ docs) = ap (λ more. d ∷ more) (same docs)

-- where the rows of a set have one
positions-set : (s : RowSet) → AreRows s → (docs : List ℕ)
    → positions_of_rows (optional_shape (set_counts s)) docs ≡ beside (rank s.rows) (held s.rows docs)
unfolding positions_of_rows
positions-set s a [] = refl
positions-set s a (d ∷ docs) =
    let r = rank s.rows d in
    let behind = positions_of_rows (optional_shape (set_counts s)) docs in
    ap (λ at. runs d (range_with_len at (get_or (set_counts s) d 0)) ++ behind) (set_counts-start s a d)
    ∙ ap (λ n. runs d (range_with_len r n) ++ behind) (set_counts-at s a d)
    ∙ ap (λ more. runs d (range_with_len r (cond (holds s.rows d) 1 0)) ++ more) (positions-set s a docs)
    ∙ one (rank s.rows) (holds s.rows d) d (held s.rows docs)
  where
    one : (f : ℕ → ℕ) (b : Bool) (d : ℕ) (docs : List ℕ)
        → runs d (range_with_len (f d) (cond b 1 0)) ++ beside f docs ≡ beside f (cond b (d ∷ docs) docs)
    one f true d docs = refl
    one f false d docs = refl

-- of the rows asked for those are found that have a value
pub set-docs : (s : RowSet) → AreRows s → (docs : List ℕ)
    → found_rows (positions_of_rows (optional_shape (set_counts s)) docs) ≡ held s.rows docs
set-docs s a docs = ap found_rows (positions-set s a docs) ∙ docs-beside (rank s.rows) (held s.rows docs)

-- the positions of the rows asked for are the ranks of those that have a value
pub set-positions : (s : RowSet) → AreRows s → (docs : List ℕ)
    → positions_of (positions_of_rows (optional_shape (set_counts s)) docs) ≡ held_ranks s.rows docs
set-positions s a docs = ap positions_of (positions-set s a docs) ∙ positions-beside (rank s.rows) (held s.rows docs)

-- a row of the set has a count that isn't 0
pub set-holds : (s : RowSet) → AreRows s → (row : ℕ) → holds s.rows row ≡ not (get_or (set_counts s) row 0 == 0)
set-holds s a row = sym (ap (λ n. not (n == 0)) (set_counts-at s a row) ∙ test (holds s.rows row))
  where
    test : (b : Bool) → not (cond b 1 0 == 0) ≡ b
    test true = refl
    test false = refl
