-- Rows of one table that are dropped by their places.
use Rattle.std.proofs.Common.{ℕ, suc, ◌+◌, ◌≤◌, Bool, true, false, List, [], ◌∷◌, length, arith}
use Rattle.std.specs.Prelude.{if◌then◌else◌}
use Rattle.col_segments.specs.Segments.{is_listed, rows_without}

-- the items behind the first
abbrev pub tail_of : {A : Type 0} → List A → List A
tail_of [] = []
tail_of (x ∷ xs) = xs

-- no more rows stay than there were
pub rows-fewer : (ids : List ℕ) (place : ℕ) (rows : List ℕ) → length (rows_without ids place rows) ≤ length rows
rows-fewer ids place [] = omega arith
rows-fewer ids place (row ∷ rows) = by (is_listed ids place) (rows-fewer ids (place + 1) rows)
  where
    by : (b : Bool) → length (rows_without ids (place + 1) rows) ≤ length rows
        → length (if b then rows_without ids (place + 1) rows else row ∷ rows_without ids (place + 1) rows) ≤ suc (length rows)
    by true le = omega (arith, le)
    by false le = omega (arith, le)
