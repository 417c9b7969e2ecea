-- The positions of a row's values are as many as its count.
use Rattle.std.proofs.Common.{◌≡◌, ℕ, ◌-◌, ◌≤◌, ◌==◌, Bool, true, false, cond, List, get_or, refl, sym, arith}
use Rattle.std.proofs.lemmas.Bool.{eqb-true}
use Rattle.col_model.specs.Index.{Shape, empty_shape, full_shape, optional_shape, multivalued_shape}
use Rattle.col_model.specs.Positions.{count_in, index_range, positions_in}
use Rattle.col_index.specs.Offsets.{range_if_any}
use Rattle.col_index.proofs.RangeLaws.{range-counts}

-- of any row, from 0 to 0 where it has none
pub if_any-counts : (cs : List ℕ) (row : ℕ)
    → ((range_if_any cs row).0 ≤ (range_if_any cs row).1)
    × ((range_if_any cs row).1 - (range_if_any cs row).0 ≡ get_or cs row 0)
if_any-counts cs row = go (get_or cs row 0 == 0) refl
  where
    go : (b : Bool) → (get_or cs row 0 == 0) ≡ b
        → let r : ℕ × ℕ = cond b (0, 0) (index_range cs row) in (r.0 ≤ r.1) × (r.1 - r.0 ≡ get_or cs row 0)
    go true e = (omega arith, sym (eqb-true _ _ e))
    go false e = range-counts cs row

-- and of any shape
pub positions-counts : (s : Shape) (row : ℕ)
    → ((positions_in s row).0 ≤ (positions_in s row).1)
    × ((positions_in s row).1 - (positions_in s row).0 ≡ count_in s row)
positions-counts (empty_shape n) row = (omega arith, omega arith)
positions-counts full_shape row = (omega arith, omega arith)
positions-counts (optional_shape cs) row = range-counts cs row
positions-counts (multivalued_shape cs) row = range-counts cs row
