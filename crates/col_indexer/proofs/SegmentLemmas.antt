-- The counts of segments, one behind another.
use Rattle.std.proofs.Common.{◌≡◌, ℕ, zero, suc, ◌+◌, ◌<◌, ◌≤◌, true, List, [], ◌∷◌, ◌++◌, length, map, take, drop, get_or, refl, sym, ap, ◌∙◌, arith}
use Rattle.std.specs.List.{sum, flat_map, range_with_len, enumerate_from}
use Rattle.std.specs.Cmp.Lexicographic.{pointwise}
use Rattle.std.proofs.lemmas.Bool.{and_parts, true≢false}
use Rattle.std.proofs.lemmas.List.{map-append, drop-drop, drop_all, get_or-drop}
use Rattle.std.proofs.lemmas.List.Sums.{sum_by-cons, sum_by-append, sum_by-take-drop, sum_by_more, sum_by_more_le, sum_by-take-le}
use Rattle.std.proofs.Math.Seq.{drop-append-add}
use Rattle.col_model.proofs.StatsLaws.{map-map}
use Rattle.col_model.specs.Index.{Shape, empty_shape}
use Rattle.col_model.specs.Positions.{start_of, picked_counts, count_in}
use Rattle.col_indexer.specs.Counted.{counts_in}
use Rattle.col_indexer.specs.Merged.{is_over, FitSegments}
use Rattle.col_indexer.specs.Stacks.{Segments, stacked_counts, segment_counts, counts_from, values_before}
use Rattle.col_indexer.proofs.SegmentCountLemmas.{length-counts_in, counts_one_by_one}

-- the shape of a segment, by its number
abbrev pub shape_at : List Shape → ℕ → Shape
shape_at shapes k = get_or shapes k (empty_shape 0)

-- the counts of segments with these row counts and shapes
abbrev pub joined : List ℕ → List Shape → List ℕ
joined [] ss = []
joined (n ∷ ns) [] = []
joined (n ∷ ns) (s ∷ ss) = counts_in n s ++ joined ns ss

-- ---- all segments

-- the counts of picks
pub picked : List Shape → List (ℕ × ℕ) → List ℕ
picked shapes picks = map (λ (p : ℕ × ℕ). count_in (shape_at shapes p.0) p.1) picks

-- the picks of a segment
abbrev pub rows_of : ℕ × ℕ → List (ℕ × ℕ)
rows_of p = map (λ r. (p.0, r)) (range_with_len 0 p.1)

-- picks of one segment
pub picked-one : (shapes : List Shape) (k n : ℕ) (s : Shape) → shape_at shapes k ≡ s → is_over n s ≡ true
    → picked shapes (rows_of (k, n)) ≡ counts_in n s
unfolding picked
picked-one shapes k n s e over =
    let pair : ℕ → ℕ × ℕ = λ r. (k, r) in
    map-map pair (λ (p : ℕ × ℕ). count_in (shape_at shapes p.0) p.1) (range_with_len 0 n)
    ∙ ap (λ shape. map (count_in shape) (range_with_len 0 n)) e
    ∙ counts_one_by_one n s over

-- picks of all segments from one on
picked-joined : (shapes : List Shape) (k : ℕ) (ns : List ℕ) (ss : List Shape) → drop k shapes ≡ ss
    → FitSegments ns ss → picked shapes (flat_map rows_of (enumerate_from k ns)) ≡ joined ns ss
unfolding picked
picked-joined shapes k [] ss e fit = refl
picked-joined shapes k (n ∷ ns) [] e fit = absurd (true≢false (sym fit))
picked-joined shapes k (n ∷ ns) (s ∷ ss) e fit =
    let parts = and_parts (is_over n s) (pointwise is_over ns ss) fit in
    let here : shape_at shapes k ≡ s = ap (λ i. shape_at shapes i) (omega arith)
    ∙ sym (get_or-drop k shapes 0 (empty_shape 0)) ∙ ap (λ xs. get_or xs 0 (empty_shape 0)) e in
    let later : drop (k + 1) shapes ≡ ss = sym (drop-drop 1 k shapes) ∙ ap (λ xs. drop 1 xs) e in
    map-append (λ (p : ℕ × ℕ). count_in (shape_at shapes p.0) p.1) (rows_of (k, n)) (flat_map rows_of (enumerate_from (k + 1) ns))
    ∙ ap (λ front. front ++ picked shapes (flat_map rows_of (enumerate_from (k + 1) ns))) (picked-one shapes k n s here parts.0)
    ∙ ap (λ more. counts_in n s ++ more) (picked-joined shapes (k + 1) ns ss later parts.1)

-- the counts of all rows are those of the segments
pub stacked-joined : (s : Segments) → FitSegments s.counts s.shapes → stacked_counts s ≡ joined s.counts s.shapes
unfolding picked picked_counts
stacked-joined s fit = picked-joined s.shapes 0 s.counts s.shapes refl fit

-- behind the rows of some segments stand the others
joined-drop : (k : ℕ) (ns : List ℕ) (ss : List Shape) → FitSegments ns ss
    → drop (start_of ns k) (joined ns ss) ≡ joined (drop k ns) (drop k ss)
joined-drop zero ns ss fit = refl
joined-drop (suc k) [] ss fit = refl
joined-drop (suc k) (n ∷ ns) [] fit = absurd (true≢false (sym fit))
joined-drop (suc k) (n ∷ ns) (s ∷ ss) fit =
    let parts = and_parts (is_over n s) (pointwise is_over ns ss) fit in
    ap (λ m. drop m (counts_in n s ++ joined ns ss))
    (sum_by-cons (λ x. x) n (take k ns) ∙ ap (λ m. m + start_of ns k) (sym (length-counts_in n s parts.0)))
    ∙ drop-append-add (counts_in n s) (joined ns ss) (start_of ns k)
    ∙ joined-drop k ns ss parts.1

-- the counts of a segment and those behind it
joined-first : (k : ℕ) (ns : List ℕ) (ss : List Shape) → FitSegments ns ss → k < length ns
    → joined (drop k ns) (drop k ss)
    ≡ counts_in (get_or ns k 0) (shape_at ss k) ++ joined (drop (suc k) ns) (drop (suc k) ss)
joined-first k [] ss fit h = absurd (omega arith)
joined-first k (n ∷ ns) [] fit h = absurd (true≢false (sym fit))
joined-first zero (n ∷ ns) (s ∷ ss) fit h = refl
joined-first (suc k) (n ∷ ns) (s ∷ ss) fit h = joined-first k ns ss (and_parts (is_over n s) (pointwise is_over ns ss) fit).1 (omega arith)

-- a segment's shape is of its rows
over_at : (k : ℕ) (ns : List ℕ) (ss : List Shape) → FitSegments ns ss → k < length ns → is_over (get_or ns k 0) (shape_at ss k) ≡ true
over_at k [] ss fit h = absurd (omega arith)
over_at k (n ∷ ns) [] fit h = absurd (true≢false (sym fit))
over_at zero (n ∷ ns) (s ∷ ss) fit h = (and_parts (is_over n s) (pointwise is_over ns ss) fit).0
over_at (suc k) (n ∷ ns) (s ∷ ss) fit h = over_at k ns ss (and_parts (is_over n s) (pointwise is_over ns ss) fit).1 (omega arith)

-- there are as many shapes as segments
pub length-fit : (ns : List ℕ) (ss : List Shape) → FitSegments ns ss → length ns ≡ length ss
length-fit [] [] fit = refl
length-fit [] (s ∷ ss) fit = absurd (true≢false (sym fit))
length-fit (n ∷ ns) [] fit = absurd (true≢false (sym fit))
length-fit (n ∷ ns) (s ∷ ss) fit = ap suc (length-fit ns ss (and_parts (is_over n s) (pointwise is_over ns ss) fit).1)

-- ---- from a segment on

module _ (s : Segments) (k : ℕ) (fit : FitSegments s.counts s.shapes) where
  -- the counts from a segment on
  from-joined : counts_from s k ≡ joined (drop k s.counts) (drop k s.shapes)
  from-joined = ap (λ cs. drop (start_of s.counts k) cs) (stacked-joined s fit) ∙ joined-drop k s.counts s.shapes fit

  -- behind the last segment stands nothing
  pub counts_from-end : length s.counts ≤ k → counts_from s k ≡ []
  counts_from-end h = from-joined ∙ ap (λ ns. joined ns (drop k s.shapes)) (drop_all k s.counts h)

module _ (s : Segments) (k : ℕ) (fit : FitSegments s.counts s.shapes) (within : k < length s.counts) where
  -- a segment, and what stands behind it
  pub counts_from-first : counts_from s k ≡ segment_counts s k ++ counts_from s (k + 1)
  counts_from-first =
      let next : suc k ≡ k + 1 = omega arith in
      from-joined s k fit
      ∙ joined-first k s.counts s.shapes fit within
      ∙ ap (λ more. segment_counts s k ++ more)
      (ap (λ n. joined (drop n s.counts) (drop n s.shapes)) next ∙ sym (from-joined s (k + 1) fit))

  -- a segment has a count for each row
  pub length-segment : length (segment_counts s k) ≡ get_or s.counts k 0
  length-segment = length-counts_in (get_or s.counts k 0) (shape_at s.shapes k) (over_at k s.counts s.shapes fit within)

  -- one segment more has its rows more
  pub start_of-more : start_of s.counts (k + 1) ≡ start_of s.counts k + get_or s.counts k 0
  start_of-more = sum_by_more (λ x. x) s.counts k 0 within

  -- and its values more
  pub values_before-more : values_before s (k + 1) ≡ values_before s k + sum (segment_counts s k)
  values_before-more =
      let here = sum_by-take-drop (λ x. x) (stacked_counts s) (start_of s.counts k) in
      let next = sum_by-take-drop (λ x. x) (stacked_counts s) (start_of s.counts (k + 1)) in
      let first = ap sum counts_from-first ∙ sum_by-append (λ x. x) (segment_counts s k) (counts_from s (k + 1)) in
      omega arith

  -- the rows of a segment lie among all
  pub rows_within : start_of s.counts k + get_or s.counts k 0 ≤ sum s.counts
  rows_within = sum_by_more_le (λ x. x) s.counts k 0 within

  -- and its values among all
  pub values_within : values_before s k + sum (segment_counts s k) ≤ sum (stacked_counts s)
  values_within = omega (arith, values_before-more, sum_by-take-le (λ x. x) (stacked_counts s) (start_of s.counts (k + 1)))
