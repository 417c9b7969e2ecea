-- The positions of a row's values are as many as its count.
use Rattle.std.proofs.Common.{◌≡◌, ◌⊎◌, inl, inr, ℕ, ◌+◌, ◌-◌, ◌<◌, ◌≤◌, cond, List, length, get_or, sym, ap, ◌∙◌, arith}
use Rattle.std.proofs.Math.ListN.{get_or-eq_default}
use Rattle.std.proofs.lemmas.Bool.{cases_lt, lt-ltb, le-ltb}
use Rattle.std.proofs.lemmas.List.Sums.{sum_by_more}
use Rattle.col_model.specs.Index.{multivalued_shape}
use Rattle.col_model.specs.Positions.{start_of, index_range, values_in}
use Rattle.col_index.specs.Offsets.{run}

-- of a row that is there
pub within_counts : (cs : List ℕ) (row : ℕ) → row < length cs
    → (start_of cs row ≤ start_of cs (row + 1)) × (start_of cs (row + 1) - start_of cs row ≡ get_or cs row 0)
within_counts cs row h = let more = sum_by_more (λ x. x) cs row 0 h in (omega arith, omega arith)

-- of any number
pub range-counts : (cs : List ℕ) (row : ℕ)
    → ((index_range cs row).0 ≤ (index_range cs row).1)
    × ((index_range cs row).1 - (index_range cs row).0 ≡ get_or cs row 0)
range-counts cs row = go (cases_lt row (length cs))
  where
    go : (row < length cs) ⊎ (length cs ≤ row)
        → ((index_range cs row).0 ≤ (index_range cs row).1)
        × ((index_range cs row).1 - (index_range cs row).0 ≡ get_or cs row 0)
    go (inl h) = rw (lt-ltb row (length cs) h) (within_counts cs row h)
    go (inr h) = rw (le-ltb row (length cs) h) (omega arith, sym (get_or-eq_default cs 0 h))

-- a row that is there has the range from where its values start to where they end
pub range-inside : (cs : List ℕ) (row : ℕ) → row < length cs → index_range cs row ≡ (start_of cs row, start_of cs (row + 1))
range-inside cs row h = ap (λ b. cond b (start_of cs row, start_of cs (row + 1)) (0, 0)) (lt-ltb row (length cs) h)

-- positions from the first to behind the last of a row's values
pub record IsRangeOf (cs : List ℕ) (row start end : ℕ) : Type 0 where
  pub first : start ≡ (index_range cs row).0
  pub last : end ≡ (index_range cs row).1

module _ (cs : List ℕ) (row start end : ℕ) (r : IsRangeOf cs row start end) where
  -- the values of the row are at these positions
  pub range-values : run row start (end - start) ≡ values_in (multivalued_shape cs) row
  range-values =
      let many : end - start ≡ get_or cs row 0 = omega (arith, (range-counts cs row).1, r.first, r.last) in
      ap (run row start) many ∙ go (cases_lt row (length cs))
    where
      go : (row < length cs) ⊎ (length cs ≤ row)
          → run row start (get_or cs row 0) ≡ run row (start_of cs row) (get_or cs row 0)
      go (inl h) = ap (λ n. run row n (get_or cs row 0)) (r.first ∙ ap (λ p. p.0) (range-inside cs row h))
      go (inr h) =
          let none : get_or cs row 0 ≡ 0 = get_or-eq_default cs 0 h in
          ap (run row start) none ∙ sym (ap (run row (start_of cs row)) none)
