-- Lists that are appended item by item.
use Rattle.std.proofs.Common.{◌≡◌, ℕ, zero, suc, ◌+◌, ◌<◌, ◌≤◌, List, [], ◌∷◌, ◌++◌, length, map, drop, get_or, slice_get, Some, None, sym, ap, ◌∙◌, arith}
use Rattle.std.proofs.lemmas.List.{length-map, get_or-map, drop_more, drop_all, append_assoc, append-nil}
use Rattle.std.proofs.lemmas.List.Sums.{sum_by-cons}
use Rattle.std.proofs.lemmas.Option.{get_or_from_slice_get, slice_get_within}
use Rattle.col_model.specs.Positions.{start_of, rows_with_value, starts_of}
use Rattle.std.specs.List.{sum}
use Rattle.col_index.specs.Indexes.{shape_of}
use Rattle.col_index.specs.declared.column_index.ColumnIndex.{ColumnIndex}
use Rattle.col_indexer.specs.Counted.{rows_behind, ends_behind, counts_in}
use Rattle.col_indexer.specs.Stacks.{Segments, AreSegments, index_segments, segment_counts, stacked_counts, counts_from, values_before}
use Rattle.col_index.proofs.RankLaws.{slice_get-none}
use Rattle.col_index.proofs.RowsLaws.{rows_with_value-from}
use Rattle.col_indexer.proofs.CountedLemmas.{rows_behind-from, rows_behind-append, starts_after-ends, starts_of-ends, ends_behind-none, ends_behind-some}
use Rattle.col_indexer.proofs.SegmentLemmas.{counts_from-first, counts_from-end, length-segment, start_of-more, values_before-more}
use Rattle.col_indexer.proofs.StackedStartLemmas.{starts_after-moved}
use Rattle.col_indexer.proofs.StackedWalkLemmas.{segment_read}

-- one more item, so far behind
pub appended-more : (b k x y : ℕ) (xs items new : List ℕ) → y ≡ b + x → new ≡ items ++ y ∷ []
    → slice_get xs k ≡ Some x → new ++ drop (k + 1) (map (λ z. b + z) xs) ≡ items ++ drop k (map (λ z. b + z) xs)
appended-more b k x y xs items new e f g =
    let inside = slice_get_within xs k x g in
    let long = length-map xs (λ z. b + z) in
    let item = get_or-map (λ z. b + z) xs k 0 0 inside ∙ ap (λ z. b + z) (get_or_from_slice_get xs k x 0 g) ∙ sym e in
    let rest = drop (k + 1) (map (λ z. b + z) xs) in
    ap (λ all. all ++ rest) f
    ∙ append_assoc items (y ∷ []) rest
    ∙ ap (λ left. items ++ left) (sym (drop_more (map (λ z. b + z) xs) k 0 (omega arith) ∙ ap (λ z. z ∷ rest) item))

-- none is left
pub appended-all : (b k : ℕ) (xs items : List ℕ) → slice_get xs k ≡ None → items ≡ items ++ drop k (map (λ z. b + z) xs)
appended-all b k xs items g =
    let past = slice_get-none xs k g in
    let long = length-map xs (λ z. b + z) in
    sym (ap (λ left. items ++ left) (drop_all k (map (λ z. b + z) xs) (omega arith)) ∙ append-nil items)

-- the rows of one more segment
segment-appended : (s : Segments) (k b : ℕ) (items new : List ℕ) → AreSegments s → k < length s.counts
    → b ≡ start_of s.counts k → new ≡ items ++ rows_behind b (segment_counts s k)
    → (b + get_or s.counts k 0 ≡ start_of s.counts (k + 1))
    × (new ++ rows_behind (b + get_or s.counts k 0) (counts_from s (k + 1))
    ≡ items ++ rows_behind b (counts_from s k))
segment-appended s k b items new are within e f =
    let long = length-segment s k are.fit within in
    let rest = rows_behind (b + get_or s.counts k 0) (counts_from s (k + 1)) in
    let split : rows_behind b (counts_from s k) ≡ rows_behind b (segment_counts s k) ++ rest =
    ap (rows_behind b) (counts_from-first s k are.fit within)
    ∙ rows_behind-append b (b + get_or s.counts k 0) (segment_counts s k) (counts_from s (k + 1))
    (omega arith) in (
      omega (arith, start_of-more s k are.fit within),
      ap (λ all. all ++ rest) f
          ∙ append_assoc items (rows_behind b (segment_counts s k)) rest ∙ ap (λ left. items ++ left) (sym split),
    )

-- the same where its index was read, and m is its number of rows
pub rows-appended : (indexes : List ColumnIndex) (counts : List ℕ) (k n m b : ℕ) (index : ColumnIndex) (items new : List ℕ)
    → AreSegments (index_segments indexes counts) → k < length counts → n ≡ get_or counts k 0
    → index ≡ get_or indexes k index → m ≡ n → b ≡ start_of counts k
    → new ≡ items ++ rows_behind b (counts_in n (shape_of index))
    → (b + m ≡ start_of counts (k + 1))
    × (new ++ rows_behind (b + m) (counts_from (index_segments indexes counts) (k + 1))
    ≡ items ++ rows_behind b (counts_from (index_segments indexes counts) k))
rows-appended indexes counts k n m b index items new are within e f many g h =
    let s = index_segments indexes counts in
    let read = segment_read indexes counts k n index are.fit within e f in
    let more = segment-appended s k b items new are within g (h ∙ ap (λ cs. items ++ rows_behind b cs) read) in
    let sum = ap (λ x. b + x) (many ∙ e) in
    (sum ∙ more.0, ap (λ x. new ++ rows_behind x (counts_from s (k + 1))) sum ∙ more.1)

-- at the front all rows are left
pub rows-front : (s : Segments) → rows_behind 0 (counts_from s 0) ≡ rows_with_value (stacked_counts s)
rows-front s = rows_behind-from 0 (stacked_counts s) ∙ sym (rows_with_value-from (stacked_counts s))

-- behind the last segment none is left
pub rows-end : (s : Segments) (k b : ℕ) (items : List ℕ) → AreSegments s → length s.counts ≤ k
    → items ≡ items ++ rows_behind b (counts_from s k)
rows-end s k b items are h = sym (ap (λ cs. items ++ rows_behind b cs) (counts_from-end s k are.fit h) ∙ append-nil items)

-- ---- ends of values

-- starts without the first are ends
pub ends-front : (b : ℕ) (cs : List ℕ) → drop 1 (map (λ start. b + start) (starts_of cs)) ≡ ends_behind b cs
unfolding starts_of
ends-front b cs = ap (drop 1) (sym (starts_after-moved b 0 b cs (omega arith)) ∙ starts_after-ends b cs)

-- ends of two lists
ends-append : (b m : ℕ) (xs ys : List ℕ) → m ≡ b + sum xs → ends_behind b (xs ++ ys) ≡ ends_behind b xs ++ ends_behind m ys
unfolding ends_behind
ends-append b m [] ys e = ap (λ n. ends_behind n ys) (omega arith)
ends-append b m (zero ∷ xs) ys e =
    ends_behind-none b (xs ++ ys) ∙ ends-append b m xs ys (omega (arith, e, sum_by-cons (λ n. n) zero xs))
    ∙ ap (λ front. front ++ ends_behind m ys) (sym (ends_behind-none b xs))
ends-append b m (suc x ∷ xs) ys e =
    ends_behind-some b x (xs ++ ys)
    ∙ ap (λ more. (b + suc x) ∷ more) (ends-append (b + suc x) m xs ys (omega (arith, e, sum_by-cons (λ n. n) (suc x) xs)))
    ∙ ap (λ front. front ++ ends_behind m ys) (sym (ends_behind-some b x xs))

-- the ends of one more segment
segment_ends-appended : (s : Segments) (k b m : ℕ) (items new : List ℕ) → AreSegments s → k < length s.counts
    → b ≡ values_before s k → m ≡ b + sum (segment_counts s k) → new ≡ items ++ ends_behind b (segment_counts s k)
    → (m ≡ values_before s (k + 1))
    × (new ++ ends_behind m (counts_from s (k + 1)) ≡ items ++ ends_behind b (counts_from s k))
segment_ends-appended s k b m items new are within e g f =
    let rest = ends_behind m (counts_from s (k + 1)) in
    let split : ends_behind b (counts_from s k) ≡ ends_behind b (segment_counts s k) ++ rest =
    ap (ends_behind b) (counts_from-first s k are.fit within)
    ∙ ends-append b m (segment_counts s k) (counts_from s (k + 1)) g in (
      omega (arith, values_before-more s k are.fit within),
      ap (λ all. all ++ rest) f
          ∙ append_assoc items (ends_behind b (segment_counts s k)) rest ∙ ap (λ left. items ++ left) (sym split),
    )

-- the same where its index was read, and m is its number of values
pub ends-appended : (indexes : List ColumnIndex) (counts : List ℕ) (k n m b : ℕ) (index : ColumnIndex) (items new : List ℕ)
    → AreSegments (index_segments indexes counts) → k < length counts → n ≡ get_or counts k 0
    → index ≡ get_or indexes k index → m ≡ sum (counts_in n (shape_of index))
    → b ≡ values_before (index_segments indexes counts) k → new ≡ items ++ ends_behind b (counts_in n (shape_of index))
    → (b + m ≡ values_before (index_segments indexes counts) (k + 1))
    × (new ++ ends_behind (b + m) (counts_from (index_segments indexes counts) (k + 1))
    ≡ items ++ ends_behind b (counts_from (index_segments indexes counts) k))
ends-appended indexes counts k n m b index items new are within e f many g h =
    let read = segment_read indexes counts k n index are.fit within e f in
    segment_ends-appended (index_segments indexes counts) k b (b + m) items new are within g
    (ap (λ x. b + x) (many ∙ ap sum read)) (h ∙ ap (λ cs. items ++ ends_behind b cs) read)

-- behind the first start all ends are left
pub starts-front : (s : Segments) → 0 ∷ ends_behind 0 (counts_from s 0) ≡ starts_of (stacked_counts s)
starts-front s = sym (starts_of-ends (stacked_counts s))

-- behind the last segment none is left
pub ends-end : (s : Segments) (k b : ℕ) (items : List ℕ) → AreSegments s → length s.counts ≤ k
    → items ≡ items ++ ends_behind b (counts_from s k)
unfolding ends_behind
ends-end s k b items are h = sym (ap (λ cs. items ++ ends_behind b cs) (counts_from-end s k are.fit h) ∙ append-nil items)
