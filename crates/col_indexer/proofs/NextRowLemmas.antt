-- How many rows with a value stand before the row behind one of them.
use Rattle.std.proofs.Common.{◌≡◌, ℕ, ◌+◌, true, cond, List, [], ◌∷◌, get_or, slice_get, Some, refl, sym, ap, ◌∙◌, arith}
use Rattle.std.proofs.lemmas.Option.{get_or_from_slice_get, slice_get_within}
use Rattle.col_index.specs.Sets.{holds}
use Rattle.col_index.proofs.HeldLaws.{rank-holds, rank-next}
use Rattle.col_index.proofs.IndexedLaws.{set_of_counts, counts-are_rows}
use Rattle.col_index.proofs.RankLaws.{rows_rise, rank-at, rank-cons_above}
use Rattle.col_model.specs.Positions.{rank, rows_with_value}

-- no number is below 0
rank-zero : (xs : List ℕ) → rank xs 0 ≡ 0
rank-zero [] = refl
rank-zero (x ∷ xs) = rank-cons_above x xs 0 (omega arith) ∙ rank-zero xs

-- no row with a value stands before row 0
pub rank-first : (cs : List ℕ) → rank (rows_with_value cs) 0 ≡ 0
rank-first cs = rank-zero (rows_with_value cs)

-- before the row behind one with a value stands one more
pub rank-after : (cs : List ℕ) (k row : ℕ) → slice_get (rows_with_value cs) k ≡ Some row → rank (rows_with_value cs) (row + 1) ≡ k + 1
rank-after cs k row e =
    let rows = rows_with_value cs in
    let rise = rows_rise (set_of_counts cs) (counts-are_rows cs) in
    let within = slice_get_within rows k row e in
    let at = get_or_from_slice_get rows k row 0 e in
    let ranked : rank rows row ≡ k = ap (rank rows) (sym at) ∙ rank-at rows k rise within in
    let held : holds rows row ≡ true = rank-holds rows row (omega arith) (ap (λ n. get_or rows n 0) ranked ∙ at) in
    rank-next rows row rise ∙ ap (λ b. rank rows row + cond b 1 0) held ∙ omega arith
