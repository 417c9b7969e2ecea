-- Ranks that are replaced by their rows, one after another.
use Rattle.std.proofs.Common.{◌≡◌, ℕ, ◌+◌, ◌<◌, List, [], ◌∷◌, ◌++◌, length, map, take, drop, set, get_or, slice_get, Some, sym, ap, ◌∙◌, arith}
use Rattle.std.proofs.lemmas.List.{get_or-drop, drop-drop, drop-set-lt, take_more, take_more_set, map-append}
use Rattle.col_common.specs.Ascending.{AreBelow}
use Rattle.col_index.proofs.RankLaws.{below_at}

-- what isn't replaced yet is the same
pub same_at : (old xs : List ℕ) (at : ℕ) → at < length old → drop at xs ≡ drop at old → get_or xs at 0 ≡ get_or old at 0
same_at old xs at h rest =
    let e : at + 0 ≡ at = omega arith in
    ap (λ k. get_or xs k 0) (sym e) ∙ sym (get_or-drop at xs 0 0) ∙ ap (λ l. get_or l 0 0) rest
    ∙ get_or-drop at old 0 0 ∙ ap (λ k. get_or old k 0) e

module _ (rows old xs : List ℕ) (at : ℕ) (h : at < length old) (rest : drop at xs ≡ drop at old) where
  -- a rank that isn't replaced yet is below the number of rows
  pub rank_below : AreBelow (length rows) old → get_or xs at 0 < length rows
  rank_below below = let here = below_at (length rows) old at below h in omega (arith, same_at old xs at h rest, here)

  -- one rank replaced by its row leaves one more that is replaced
  pub selected_front : (row : ℕ) → length xs ≡ length old
      → map Some (take at xs) ≡ map (slice_get rows) (take at old) → slice_get rows (get_or xs at 0) ≡ Some row
      → map Some (take (at + 1) (set xs at row)) ≡ map (slice_get rows) (take (at + 1) old)
  selected_front row long front read =
      let here : slice_get rows (get_or old at 0) ≡ Some row = ap (slice_get rows) (sym (same_at old xs at h rest)) ∙ read in
      ap (map Some) (take_more_set xs at row (omega arith)) ∙ map-append Some (take at xs) (row ∷ []) ∙ ap (λ l. l ++ Some row ∷ []) front
      ∙ ap (λ o. map (slice_get rows) (take at old) ++ o ∷ []) (sym here)
      ∙ sym (map-append (slice_get rows) (take at old) (get_or old at 0 ∷ []))
      ∙ ap (map (slice_get rows)) (sym (take_more old at 0 h))

  -- what stands behind a rank that is replaced stays
  pub selected_rest : (row : ℕ) → drop (at + 1) (set xs at row) ≡ drop (at + 1) old
  selected_rest row = drop-set-lt (at + 1) xs at row (omega arith) ∙ sym (drop-drop 1 at xs) ∙ ap (drop 1) rest ∙ drop-drop 1 at old
