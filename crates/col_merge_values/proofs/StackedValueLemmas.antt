-- The values of all rows of segments are those of the segments, one behind another.
use Rattle.std.proofs.Common.{◌≡◌, ℕ, suc, ◌+◌, ◌<◌, List, [], ◌∷◌, ◌++◌, length, map, drop, get_or, refl, sym, ap, ap₂, subst, ◌∙◌, arith}
use Rattle.std.specs.List.{flat_map, range_with_len, enumerate_from}
use Rattle.std.proofs.lemmas.List.{map-append, drop-drop, get_or-drop}
use Rattle.col_model.specs.Order.{Order, stack, shuffle, all_rows}
use Rattle.col_model.specs.U64List.{joined_lists}
use Rattle.col_model.proofs.SeenLaws.{joined-append}
use Rattle.col_model.proofs.StatsLaws.{map-map}
use Rattle.col_order.specs.Orders.{counts_of, picks_of}
use Rattle.col_column.specs.Columns.{rows_by}
use Rattle.col_column.proofs.FirstLemmas.{length-rows}
use Rattle.col_merge_values.specs.Merges.{SegmentColumns, segment_shape, segment_values, FitsShape, AreColumns, picked_row, merged_rows, merged_values, runs_by}
use Rattle.col_merge_values.proofs.ColumnRowLemmas.{joined-rows, row_by_row}

-- the picks of a segment
abbrev rows_of : ℕ × ℕ → List (ℕ × ℕ)
rows_of p = map (λ r. (p.0, r)) (range_with_len 0 p.1)

module _ {T : Type 0} (c : SegmentColumns T) where
  -- a column stands at a place
  abbrev StandsAt : ℕ → ℕ → Type 0
  StandsAt n j = FitsShape n (segment_shape c j) (segment_values c j)

  -- all rows of a segment are its values
  one-segment : (k n : ℕ) → StandsAt n k → joined_lists (merged_rows c (rows_of (k, n))) ≡ segment_values c k
  one-segment k n is =
      let s = segment_shape c k in
      let xs = segment_values c k in
      let pair : ℕ → ℕ × ℕ = λ r. (k, r) in
      ap joined_lists (map-map pair (picked_row c) (range_with_len 0 n) ∙ row_by_row (rows_by s xs) n (length-rows s xs ∙ is.rows))
      ∙ joined-rows s xs is.counted

  -- the same of all segments from one on
  from-segment : (k : ℕ) (ns : List ℕ) (xss : List (List T)) → drop k c.lists ≡ xss → length xss ≡ length ns
      → ((i : ℕ) → i < length ns → (j : ℕ) → j ≡ k + i → StandsAt (get_or ns i 0) j)
      → joined_lists (merged_rows c (flat_map rows_of (enumerate_from k ns))) ≡ joined_lists xss
  from-segment k [] [] e long each = refl
  from-segment k [] (xs ∷ xss) e long each = absurd (omega arith)
  from-segment k (n ∷ ns) [] e long each = absurd (omega arith)
  from-segment k (n ∷ ns) (xs ∷ xss) e long each =
      let front = merged_rows c (rows_of (k, n)) in
      let back = merged_rows c (flat_map rows_of (enumerate_from (k + 1) ns)) in
      let first : segment_values c k ≡ xs = ap (λ i. get_or c.lists i []) (omega arith)
      ∙ sym (get_or-drop k c.lists 0 []) ∙ ap (λ ys. get_or ys 0 []) e in
      let later : drop (k + 1) c.lists ≡ xss = sym (drop-drop 1 k c.lists) ∙ ap (λ ys. drop 1 ys) e in
      ap joined_lists (map-append (picked_row c) (rows_of (k, n)) (flat_map rows_of (enumerate_from (k + 1) ns)))
      ∙ joined-append front back
      ∙ ap₂ (λ a b. a ++ b) (one-segment k n (each 0 (omega arith) k (omega arith)) ∙ first)
      (from-segment (k + 1) ns xss later (omega arith) (λ i h j at. each (suc i) (omega arith) j (omega arith)))

  -- all values that a stack picks are those of its segments
  pub stacked-values : (counts : List ℕ) → AreColumns counts c → merged_values c (all_rows counts) ≡ joined_lists c.lists
  unfolding merged_values
  stacked-values counts are =
      from-segment 0 counts c.lists refl are.lists
      (λ i h j at. (let same : i ≡ j = omega arith in subst (StandsAt (get_or counts i 0)) same (are.each i h)))

  -- the runs of an order are the values that it picks
  pub runs-joined : (order : Order) → AreColumns (counts_of order) c → joined_lists (runs_by c order) ≡ merged_values c (picks_of order)
  unfolding merged_values
  runs-joined (stack counts) are = sym (stacked-values counts are)
  runs-joined (shuffle counts addresses) are = refl
