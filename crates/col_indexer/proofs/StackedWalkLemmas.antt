-- Steps of walks over indexes one behind another.
use Rattle.std.proofs.Common.{◌≡◌, ℕ, ◌+◌, ◌<◌, ◌≤◌, ◌^◌, List, [], ◌∷◌, ◌++◌, length, map, drop, get_or, slice_get, Option, Some, None, refl, sym, ap, ◌∙◌, arith}
use Rattle.std.proofs.lemmas.List.{length-append, length-map, get_or-map, get_or_append_left, drop_more, drop_at, drop_all}
use Rattle.std.proofs.lemmas.Option.{get_or_from_slice_get, slice_get_within}
use Rattle.col_common.specs.declared.iterable.Walk.{Walk}
use Rattle.col_model.specs.Positions.{rank, start_of, rows_with_value}
use Rattle.col_model.specs.Index.{empty_shape}
use Rattle.col_indexer.specs.Counted.{rows_behind, counts_in}
use Rattle.col_index.specs.Indexes.{shape_of}
use Rattle.col_index.proofs.RankLaws.{rank-le-length, slice_get-none}
use Rattle.col_indexer.specs.Merged.{FitSegments}
use Rattle.col_index.specs.declared.column_index.ColumnIndex.{ColumnIndex}
use Rattle.col_indexer.specs.Stacks.{Segments, AreSegments, index_segments, segment_counts, counts_from, StandsAtRow, stacked_rows_to_give}
use Rattle.col_indexer.proofs.CountedLemmas.{rows_behind-append, length-rows_with_value, row-below}
use Rattle.col_indexer.proofs.SegmentLemmas.{length-fit, counts_from-first, counts_from-end, length-segment, start_of-more, rows_within}
use Rattle.col_indexer.proofs.NextRowLemmas.{rank-first, rank-after}

-- an item of the front of a list, each so far behind
pub item_of : (b place x : ℕ) (xs front more all : List ℕ) → front ≡ map (λ y. b + y) xs → all ≡ front ++ more
    → slice_get xs place ≡ Some x → drop place all ≡ (b + x) ∷ drop (place + 1) all
item_of b place x xs front more all f e g =
    let inside = slice_get_within xs place x g in
    let long : length front ≡ length xs = ap length f ∙ length-map xs (λ y. b + y) in
    let whole = ap length e ∙ length-append front more in
    let item : get_or all place 0 ≡ b + x =
    ap (λ ys. get_or ys place 0) e
    ∙ get_or_append_left front more 0 place (omega arith)
    ∙ ap (λ ys. get_or ys place 0) f
    ∙ get_or-map (λ y. b + y) xs place 0 0 inside
    ∙ ap (λ y. b + y) (get_or_from_slice_get xs place x 0 g) in
    drop_more all place 0 (omega arith) ∙ ap (λ y. y ∷ drop (place + 1) all) item

-- none is left of the front
pub none_of : (place : ℕ) (xs front more all : List ℕ) → length front ≡ length xs → all ≡ front ++ more
    → place ≤ length xs → slice_get xs place ≡ None → drop place all ≡ more
none_of place xs front more all f e within g =
    let past = slice_get-none xs place g in
    ap (drop place) e ∙ drop_at front more place (omega arith)

-- the counts of a segment whose index was read
pub segment_read : (indexes : List ColumnIndex) (counts : List ℕ) (k n : ℕ) (index : ColumnIndex)
    → FitSegments counts (map shape_of indexes) → k < length counts → n ≡ get_or counts k 0
    → index ≡ get_or indexes k index → counts_in n (shape_of index) ≡ segment_counts (index_segments indexes counts) k
segment_read indexes counts k n index fit within e f =
    let many = length-fit counts (map shape_of indexes) fit in
    let long = length-map indexes shape_of in
    ap (λ m. counts_in m (shape_of index)) e
    ∙ ap (λ i. counts_in (get_or counts k 0) (shape_of i)) f
    ∙ ap (counts_in (get_or counts k 0)) (sym (get_or-map shape_of indexes k index (empty_shape 0) (omega arith)))

-- its rows stand among all rows
pub rows-fit : (indexes : List ColumnIndex) (counts : List ℕ) (k n b : ℕ) (index : ColumnIndex)
    → AreSegments (index_segments indexes counts) → k < length counts → n ≡ get_or counts k 0
    → index ≡ get_or indexes k index → b ≡ start_of counts k → b + length (counts_in n (shape_of index)) < 2 ^ 32
rows-fit indexes counts k n b index are within e f g =
    let s = index_segments indexes counts in
    let few = are.few_rows in
    omega (
      arith,
      ap length (segment_read indexes counts k n index are.fit within e f),
      length-segment s k are.fit within,
      rows_within s k are.fit within,
    )

-- the walk behind a row, at the next place
abbrev pub behind_row : Walk → ℕ → Walk
behind_row w row = record { segment = w.segment; place = w.place + 1; inner = row + 1; sum = w.sum }

-- ---- rows

-- the rank of the row from which on the segment's next is looked for
pub row_ranked : (indexes : List ColumnIndex) (counts : List ℕ) (at : Walk) (n place : ℕ) (index : ColumnIndex)
    → FitSegments counts (map shape_of indexes) → at.segment < length counts → n ≡ get_or counts at.segment 0
    → index ≡ get_or indexes at.segment index
    → rank (rows_with_value (segment_counts (index_segments indexes counts) at.segment)) at.inner ≡ place
    → rank (rows_with_value (counts_in n (shape_of index))) at.inner ≡ place
row_ranked indexes counts at n place index fit within e f ranked =
    ap (λ cs. rank (rows_with_value cs) at.inner) (segment_read indexes counts at.segment n index fit within e f) ∙ ranked

-- what was read of the segment's rows
pub row_read :
    (indexes : List ColumnIndex) (counts : List ℕ) (at : Walk) (n place : ℕ) (index : ColumnIndex)
    (read got : Option ℕ)
    → FitSegments counts (map shape_of indexes) → at.segment < length counts → n ≡ get_or counts at.segment 0
    → index ≡ get_or indexes at.segment index
    → read ≡ slice_get (rows_with_value (counts_in n (shape_of index))) place → read ≡ got
    → slice_get (rows_with_value (segment_counts (index_segments indexes counts) at.segment)) place ≡ got
row_read indexes counts at n place index read got fit within e f g h =
    ap (λ cs. slice_get (rows_with_value cs) place) (sym (segment_read indexes counts at.segment n index fit within e f)) ∙ sym g ∙ h

module _ (s : Segments) (a b : Walk) (are : AreSegments s) (stands : StandsAtRow s a) (within : a.segment < length s.counts) where
  -- the rows of a segment, and those behind it
  rows_split : rows_behind a.sum (counts_from s a.segment)
      ≡ rows_behind a.sum (segment_counts s a.segment)
      ++ rows_behind (a.sum + get_or s.counts a.segment 0) (counts_from s (a.segment + 1))
  rows_split =
      let long = length-segment s a.segment are.fit within in
      ap (rows_behind a.sum) (counts_from-first s a.segment are.fit within)
      ∙ rows_behind-append a.sum (a.sum + get_or s.counts a.segment 0) (segment_counts s a.segment)
      (counts_from s (a.segment + 1)) (omega arith)

  module _ (row : ℕ) (read : slice_get (rows_with_value (segment_counts s a.segment)) a.place ≡ Some row) where
    -- the row, the next place and the row behind fit
    pub row_fits : (a.sum + row < 2 ^ 32) × (a.place + 1 < 2 ^ 64) × (row + 1 < 2 ^ 32)
    row_fits =
        let long = length-segment s a.segment are.fit within in
        let all = rows_within s a.segment are.fit within in
        let here = row-below (segment_counts s a.segment) a.place row read in
        let inside = slice_get_within (rows_with_value (segment_counts s a.segment)) a.place row read in
        let few = length-rows_with_value (segment_counts s a.segment) in
        let before = stands.before in
        let total = are.few_rows in
        (omega arith, omega arith, omega arith)

    -- behind a row the walk stands at the next place
    pub row_stands : b.segment ≡ a.segment → b.place ≡ a.place + 1 → b.inner ≡ row + 1 → b.sum ≡ a.sum → StandsAtRow s b
    row_stands e f i g =
        record {
          segment = omega (arith, stands.segment);
          row = record {
            ranked =
                ap (λ k. rank (rows_with_value (segment_counts s k)) b.inner) e
                ∙ ap (rank (rows_with_value (segment_counts s a.segment))) i
                ∙ rank-after (segment_counts s a.segment) a.place row read
                ∙ sym f;
            small = omega (arith, row_fits.2);
          };
          before = g ∙ stands.before ∙ ap (start_of s.counts) (sym e);
        }

    -- the row is the first that was left
    pub row_given : b.segment ≡ a.segment → b.place ≡ a.place + 1 → b.sum ≡ a.sum
        → stacked_rows_to_give s a ≡ (a.sum + row) ∷ stacked_rows_to_give s b
    row_given e f g =
        item_of a.sum a.place row _ _ _ _ refl rows_split read
        ∙ ap (λ n. (a.sum + row) ∷ drop n (rows_behind a.sum (counts_from s a.segment))) (sym f)
        ∙ ap (λ n. (a.sum + row) ∷ drop b.place (rows_behind n (counts_from s a.segment))) (sym g)
        ∙ ap (λ k. (a.sum + row) ∷ drop b.place (rows_behind b.sum (counts_from s k))) (sym e)

  module _ (none : slice_get (rows_with_value (segment_counts s a.segment)) a.place ≡ None) where
    -- behind a segment the walk stands at the front of the next
    pub segment_stands : b.segment ≡ a.segment + 1 → b.place ≡ 0 → b.inner ≡ 0 → b.sum ≡ a.sum + get_or s.counts a.segment 0
        → StandsAtRow s b
    segment_stands e f i g =
        record {
          segment = omega arith;
          row = record {
            ranked =
                ap (rank (rows_with_value (segment_counts s b.segment))) i
                ∙ rank-first (segment_counts s b.segment) ∙ sym f;
            small = omega arith;
          };
          before =
              g ∙ ap (λ n. n + get_or s.counts a.segment 0) stands.before
              ∙ sym (start_of-more s a.segment are.fit within) ∙ ap (start_of s.counts) (sym e);
        }

    -- and has the same rows to give
    pub segment_left : b.segment ≡ a.segment + 1 → b.place ≡ 0 → b.sum ≡ a.sum + get_or s.counts a.segment 0
        → stacked_rows_to_give s b ≡ stacked_rows_to_give s a
    segment_left e f g =
        ap (λ n. drop n (rows_behind b.sum (counts_from s b.segment))) f
        ∙ ap (λ n. rows_behind n (counts_from s b.segment)) g
        ∙ ap (λ k. rows_behind (a.sum + get_or s.counts a.segment 0) (counts_from s k)) e
        ∙ sym (none_of a.place _ _ _ _
        (length-map (rows_with_value (segment_counts s a.segment)) (λ row. a.sum + row)) rows_split
        (omega (arith, stands.row.ranked, rank-le-length (rows_with_value (segment_counts s a.segment)) a.inner)) none)

-- a walk at the front stands
pub row-front : (s : Segments) (w : Walk) → w.segment ≡ 0 → w.place ≡ 0 → w.inner ≡ 0 → w.sum ≡ 0 → StandsAtRow s w
row-front s w e f i g = record {
  segment = omega arith;
  row = record {
    ranked = ap (rank (rows_with_value (segment_counts s w.segment))) i ∙ rank-first (segment_counts s w.segment) ∙ sym f;
    small = omega arith;
  };
  before = g ∙ sym (ap (start_of s.counts) e);
}

-- behind the last segment no row is left
pub rows_end : (s : Segments) (a : Walk) → AreSegments s → length s.counts ≤ a.segment → stacked_rows_to_give s a ≡ []
rows_end s a are h =
    ap (λ cs. drop a.place (rows_behind a.sum cs)) (counts_from-end s a.segment are.fit h) ∙ drop_all a.place [] (omega arith)
