-- Steps of walks over the start offsets of indexes one behind another.
use Rattle.std.proofs.Common.{◌≡◌, ℕ, ◌+◌, ◌-◌, ◌<◌, ◌≤◌, ◌^◌, List, [], ◌∷◌, ◌++◌, length, map, drop, get_or, slice_get, Option, Some, None, inl, refl, sym, ap, subst, ◌∙◌, arith}
use Rattle.std.specs.List.{sum}
use Rattle.std.proofs.lemmas.List.{length-map, drop_all}
use Rattle.std.proofs.lemmas.Option.{slice_get_within}
use Rattle.col_common.specs.declared.iterable.Walk.{Walk}
use Rattle.col_model.specs.Positions.{rows_with_value, starts_of, starts_after}
use Rattle.col_indexer.specs.Counted.{counts_in}
use Rattle.col_index.specs.Indexes.{shape_of}
use Rattle.col_indexer.specs.Merged.{FitSegments}
use Rattle.col_indexer.specs.Stacks.{Segments, AreSegments, index_segments, segment_counts, counts_from, values_before, IsWalkOfStarts, StandsAtOffset, stacked_offsets_to_give}
use Rattle.col_index.specs.declared.column_index.ColumnIndex.{ColumnIndex}
use Rattle.col_index.specs.Walked.{IsHint32}
use Rattle.col_indexer.proofs.CountedLemmas.{length-rows_with_value}
use Rattle.col_indexer.proofs.SegmentLemmas.{counts_from-first, counts_from-end, length-segment, values_before-more, rows_within, values_within}
use Rattle.col_indexer.proofs.StackedStartLemmas.{starts_after-append, starts_after-moved, starts_after-first, starts-le, length-starts}
use Rattle.col_indexer.proofs.StackedWalkLemmas.{segment_read, item_of, none_of}

-- what was read of the end of a row's values
pub end_read : (indexes : List ColumnIndex) (counts : List ℕ) (at : Walk) (n : ℕ) (index : ColumnIndex) (end : Option ℕ)
    → FitSegments counts (map shape_of indexes) → at.segment < length counts → n ≡ get_or counts at.segment 0
    → index ≡ get_or indexes at.segment index → 0 < at.place
    → end ≡ slice_get (starts_of (counts_in n (shape_of index))) (at.place - 1 + 1)
    → slice_get (starts_of (segment_counts (index_segments indexes counts) at.segment)) at.place ≡ end
end_read indexes counts at n index end fit within e f begun h =
    let same = sym (segment_read indexes counts at.segment n index fit within e f) in
    let here : at.place ≡ at.place - 1 + 1 = omega arith in
    ap (slice_get (starts_of (segment_counts (index_segments indexes counts) at.segment))) here
    ∙ ap (λ cs. slice_get (starts_of cs) (at.place - 1 + 1)) same ∙ sym h

-- what is told of a row of the segment is told of one of the index that was read
pub hint_of_index : (indexes : List ColumnIndex) (counts : List ℕ) (k n from place : ℕ) (index : ColumnIndex)
    → FitSegments counts (map shape_of indexes) → k < length counts → n ≡ get_or counts k 0
    → index ≡ get_or indexes k index
    → IsHint32 (rows_with_value (segment_counts (index_segments indexes counts) k)) from place
    → IsHint32 (rows_with_value (counts_in n (shape_of index))) from place
hint_of_index indexes counts k n from place index fit within e f =
    subst (λ cs. IsHint32 (rows_with_value cs) from place) (sym (segment_read indexes counts k n index fit within e f))

-- and what is told there is told of the segment
pub hint_of_segment : (indexes : List ColumnIndex) (counts : List ℕ) (k n from place : ℕ) (index : ColumnIndex)
    → FitSegments counts (map shape_of indexes) → k < length counts → n ≡ get_or counts k 0
    → index ≡ get_or indexes k index
    → IsHint32 (rows_with_value (counts_in n (shape_of index))) from place
    → IsHint32 (rows_with_value (segment_counts (index_segments indexes counts) k)) from place
hint_of_segment indexes counts k n from place index fit within e f =
    subst (λ cs. IsHint32 (rows_with_value cs) from place) (segment_read indexes counts k n index fit within e f)

-- how many values a segment has whose index was read
pub sum_read : (indexes : List ColumnIndex) (counts : List ℕ) (k n : ℕ) (index : ColumnIndex)
    → FitSegments counts (map shape_of indexes) → k < length counts → n ≡ get_or counts k 0
    → index ≡ get_or indexes k index
    → sum (counts_in n (shape_of index)) ≡ sum (segment_counts (index_segments indexes counts) k)
sum_read indexes counts k n index fit within e f = ap sum (segment_read indexes counts k n index fit within e f)

-- its values stand among all values
pub values-fit : (indexes : List ColumnIndex) (counts : List ℕ) (k n b : ℕ) (index : ColumnIndex)
    → AreSegments (index_segments indexes counts) → k < length counts → n ≡ get_or counts k 0
    → index ≡ get_or indexes k index → b ≡ values_before (index_segments indexes counts) k
    → b + sum (counts_in n (shape_of index)) < 2 ^ 32
values-fit indexes counts k n b index are within e f g =
    let few = are.few_values in
    omega (
      arith,
      sum_read indexes counts k n index are.fit within e f,
      values_within (index_segments indexes counts) k are.fit within,
    )

-- ---- the starts of rows with these counts

-- the same number tells the same at the same place
moved_hint : (rows : List ℕ) (r q p k : ℕ) → IsHint32 rows r p → q ≡ r → k ≡ p → IsHint32 rows q k
moved_hint rows r q p k hint e f = subst (λ n. IsHint32 rows n k) (sym e) (subst (IsHint32 rows r) (sym f) hint)

-- where nothing is told, a walk stands at each place that is there
no_hint : (cs : List ℕ) (w : Walk) → w.inner ≡ 0 → w.place ≤ 1 → IsWalkOfStarts cs w
no_hint cs w i f = record {
  hint = record { told = inl i; small = omega arith };
  within = omega (arith, length-starts cs);
}

-- behind the first start a walk stands at the next place
pub first_start : (cs : List ℕ) (a b : Walk) → IsWalkOfStarts cs a → a.place ≡ 0 → b.place ≡ 1 → b.inner ≡ a.inner → IsWalkOfStarts cs b
first_start cs a b stands z f i = record {
  hint = moved_hint (rows_with_value cs) a.inner b.inner (a.place - 1) (b.place - 1) stands.hint i (omega arith);
  within = omega (arith, length-starts cs);
}

-- so does one at the front
pub start-front : (cs : List ℕ) (w : Walk) → w.place ≡ 0 → w.inner ≡ 0 → IsWalkOfStarts cs w
start-front cs w f i = no_hint cs w i (omega arith)

-- behind the end of a row's values the walk stands at the next place too
pub next_start : (cs : List ℕ) (a b : Walk) (row start : ℕ) → IsHint32 (rows_with_value cs) row (a.place - 1 + 1)
    → slice_get (starts_of cs) a.place ≡ Some start → 0 < a.place → b.place ≡ a.place + 1 → b.inner ≡ row → IsWalkOfStarts cs b
next_start cs a b row start hint read begun f i = record {
  hint = moved_hint (rows_with_value cs) row b.inner (a.place - 1 + 1) (b.place - 1) hint i (omega arith);
  within = omega (arith, slice_get_within (starts_of cs) a.place start read);
}

-- ---- the starts of segments

-- a walk at the front stands
pub offset-front : (s : Segments) (w : Walk) → w.segment ≡ 0 → w.place ≡ 0 → w.inner ≡ 0 → w.sum ≡ 0 → StandsAtOffset s w
offset-front s w e f i g = record {
  segment = omega arith;
  start = start-front (segment_counts s w.segment) w f i;
  before = g ∙ sym (ap (values_before s) e);
}

module _ (s : Segments) (a b : Walk) (are : AreSegments s) (stands : StandsAtOffset s a) where
  -- the first offset of all is given where the place is 0
  pub first_stands : a.place ≡ 0 → b.segment ≡ a.segment → b.place ≡ 1 → b.inner ≡ a.inner → b.sum ≡ a.sum → StandsAtOffset s b
  first_stands z e f i g =
      record {
        segment = omega (arith, stands.segment);
        start =
            subst (λ k. IsWalkOfStarts (segment_counts s k) b) (sym e)
            (first_start (segment_counts s a.segment) a b stands.start z f i);
        before = g ∙ stands.before ∙ ap (values_before s) (sym e);
      }

  -- it is the first that was left
  pub first_given : a.place ≡ 0 → b.segment ≡ a.segment → b.place ≡ 1 → b.sum ≡ a.sum
      → stacked_offsets_to_give s a ≡ a.sum ∷ stacked_offsets_to_give s b
  first_given z e f g =
      ap (λ n. drop n (starts_after a.sum (counts_from s a.segment))) z
      ∙ starts_after-first a.sum (counts_from s a.segment)
      ∙ ap (λ n. a.sum ∷ drop n (starts_after a.sum (counts_from s a.segment))) (sym f)
      ∙ ap (λ n. a.sum ∷ drop b.place (starts_after n (counts_from s a.segment))) (sym g)
      ∙ ap (λ k. a.sum ∷ drop b.place (starts_after b.sum (counts_from s k))) (sym e)

  -- behind the last segment nothing is left but it
  pub offsets_end : length s.counts ≤ a.segment → 0 < a.place → stacked_offsets_to_give s a ≡ []
  offsets_end h p =
      ap (λ cs. drop a.place (starts_after a.sum cs)) (counts_from-end s a.segment are.fit h) ∙ drop_all a.place (a.sum ∷ []) (omega arith)

module _ (s : Segments) (a b : Walk) (are : AreSegments s) (stands : StandsAtOffset s a) (within : a.segment < length s.counts) where
  -- the starts of a segment, and those behind it
  starts_split : starts_after a.sum (counts_from s a.segment)
      ≡ starts_after a.sum (segment_counts s a.segment)
      ++ drop 1 (starts_after (a.sum + sum (segment_counts s a.segment)) (counts_from s (a.segment + 1)))
  starts_split =
      ap (starts_after a.sum) (counts_from-first s a.segment are.fit within)
      ∙ starts_after-append a.sum (a.sum + sum (segment_counts s a.segment)) (segment_counts s a.segment)
      (counts_from s (a.segment + 1)) refl

  -- the starts of a segment are so far behind
  front_moved : starts_after a.sum (segment_counts s a.segment) ≡ map (λ start. a.sum + start) (starts_of (segment_counts s a.segment))
  unfolding starts_of
  front_moved = starts_after-moved a.sum 0 a.sum (segment_counts s a.segment) (omega arith)

  module _ (start : ℕ) (read : slice_get (starts_of (segment_counts s a.segment)) a.place ≡ Some start) where
    -- the start and the next place fit
    pub start_fits : (a.sum + start < 2 ^ 32) × (a.place + 1 < 2 ^ 64)
    start_fits =
        let cs = segment_counts s a.segment in
        let long = length-segment s a.segment are.fit within in
        let rows = rows_within s a.segment are.fit within in
        let all = values_within s a.segment are.fit within in
        let here = starts-le cs a.place start read in
        let inside = slice_get_within (starts_of cs) a.place start read in
        let few = length-rows_with_value cs in
        let many = length-starts cs in
        let before = stands.before in
        let total = are.few_rows in
        let values = are.few_values in
        (omega arith, omega arith)

    -- behind a start the walk stands at the next place
    pub start_stands : (row : ℕ) → IsHint32 (rows_with_value (segment_counts s a.segment)) row (a.place - 1 + 1)
        → 0 < a.place → b.segment ≡ a.segment → b.place ≡ a.place + 1 → b.inner ≡ row → b.sum ≡ a.sum
        → StandsAtOffset s b
    start_stands row hint begun e f i g =
        record {
          segment = omega (arith, stands.segment);
          start =
              subst (λ k. IsWalkOfStarts (segment_counts s k) b) (sym e)
              (next_start (segment_counts s a.segment) a b row start hint read begun f i);
          before = g ∙ stands.before ∙ ap (values_before s) (sym e);
        }

    -- the start is the first that was left
    pub start_given : b.segment ≡ a.segment → b.place ≡ a.place + 1 → b.sum ≡ a.sum
        → stacked_offsets_to_give s a ≡ (a.sum + start) ∷ stacked_offsets_to_give s b
    start_given e f g =
        item_of a.sum a.place start _ _ _ _ front_moved starts_split read
        ∙ ap (λ n. (a.sum + start) ∷ drop n (starts_after a.sum (counts_from s a.segment))) (sym f)
        ∙ ap (λ n. (a.sum + start) ∷ drop b.place (starts_after n (counts_from s a.segment))) (sym g)
        ∙ ap (λ k. (a.sum + start) ∷ drop b.place (starts_after b.sum (counts_from s k))) (sym e)

  module _ (none : slice_get (starts_of (segment_counts s a.segment)) a.place ≡ None) where
    -- behind a segment the walk stands behind the first start of the next
    pub starts_stand : b.segment ≡ a.segment + 1 → b.place ≡ 1 → b.inner ≡ 0 → b.sum ≡ a.sum + sum (segment_counts s a.segment)
        → StandsAtOffset s b
    starts_stand e f i g =
        record {
          segment = omega arith;
          start = no_hint (segment_counts s b.segment) b i (omega arith);
          before =
              g ∙ ap (λ n. n + sum (segment_counts s a.segment)) stands.before
              ∙ sym (values_before-more s a.segment are.fit within) ∙ ap (values_before s) (sym e);
        }

    -- and has the same starts to give
    pub starts_left : b.segment ≡ a.segment + 1 → b.place ≡ 1 → b.sum ≡ a.sum + sum (segment_counts s a.segment)
        → stacked_offsets_to_give s b ≡ stacked_offsets_to_give s a
    starts_left e f g =
        ap (λ n. drop n (starts_after b.sum (counts_from s b.segment))) f
        ∙ ap (λ n. drop 1 (starts_after n (counts_from s b.segment))) g
        ∙ ap (λ k. drop 1 (starts_after (a.sum + sum (segment_counts s a.segment)) (counts_from s k))) e
        ∙ sym (none_of a.place _ _ _ _
        (ap length front_moved ∙ length-map (starts_of (segment_counts s a.segment)) (λ start. a.sum + start))
        starts_split stands.start.within none)
