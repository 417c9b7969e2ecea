-- Runs to which the rows of segments are added.
use Rattle.std.proofs.Common.{◌≡◌, ℕ, zero, suc, ◌+◌, ◌<◌, ◌≤◌, List, [], ◌∷◌, ◌++◌, length, get_or, sym, ap, ◌∙◌, arith, append_assoc, append-nil, map, refl}
use Rattle.std.specs.List.{range_with_len}
use Rattle.std.proofs.lemmas.List.{length-map}
use Rattle.std.proofs.lemmas.List.FromFn.{length-range_with_len}
use Rattle.col_model.specs.Index.{runs_of}
use Rattle.col_model.specs.Positions.{start_of, rows_with_value}
use Rattle.col_index.specs.Indexes.{shape_of}
use Rattle.col_index.specs.declared.column_index.ColumnIndex.{ColumnIndex}
use Rattle.col_indexer.specs.Counted.{rows_behind, counts_in}
use Rattle.col_indexer.specs.Runs.{then_run, HaveMore}
use Rattle.col_indexer.specs.Stacks.{Segments, AreSegments, index_segments, stacked_counts, counts_from}
use Rattle.col_indexer.proofs.CollectedLemmas.{rows-appended, rows-front, rows-end}
use Rattle.col_indexer.proofs.RunWalkLemmas.{then-some}
use Rattle.col_indexer.proofs.UniformLemmas.{rows_as, rows-zeros, rows-ones}

-- ---- more rows

-- none
pub more-none : (a : List (ℕ × ℕ)) → HaveMore a a []
more-none a rows e = e ∙ ap runs_of (sym (append-nil rows))

-- some, and some behind them
pub more-then : (a b c : List (ℕ × ℕ)) (xs ys : List ℕ) → HaveMore a b xs → HaveMore b c ys → HaveMore a c (xs ++ ys)
more-then a b c xs ys f g rows e = g (rows ++ xs) (f rows e) ∙ ap runs_of (append_assoc rows xs ys)

-- those of a run
pub more-run : (a b : List (ℕ × ℕ)) (start n : ℕ) → 0 < n → b ≡ then_run a (start, n) → HaveMore a b (range_with_len start n)
more-run a b start n h e rows f = e ∙ ap (λ rs. then_run rs (start, n)) f ∙ sym (then-some rows start n h)

-- the same of equal rows
pub more-same : (a b : List (ℕ × ℕ)) (xs ys : List ℕ) → xs ≡ ys → HaveMore a b xs → HaveMore a b ys
more-same a b xs ys e f rows g = f rows g ∙ ap (λ more. runs_of (rows ++ more)) e

-- ---- rows that are all there, so far behind

-- numbers one behind another, so far behind
pub numbers-behind : (b a n : ℕ) → map (λ z. b + z) (range_with_len a n) ≡ range_with_len (b + a) n
numbers-behind b a zero = refl
numbers-behind b a (suc n) =
    let next : b + (a + 1) ≡ b + a + 1 = omega arith in
    ap (λ xs. (b + a) ∷ xs) (numbers-behind b (a + 1) n ∙ ap (λ m. range_with_len m n) next)

-- those of a full segment
pub full-behind : (b n : ℕ) (index made : ColumnIndex) → index ≡ made
    → counts_in n (shape_of made) ≡ map (λ row. 1) (range_with_len 0 n)
    → range_with_len b n ≡ rows_behind b (counts_in n (shape_of index))
full-behind b n index made e f =
    let none : b + 0 ≡ b = omega arith in
    ap (λ m. range_with_len m n) (sym none) ∙ sym (numbers-behind b 0 n)
    ∙ ap (λ rows. map (λ z. b + z) rows) (sym (rows_as n index made (range_with_len 0 n) e (ap rows_with_value f ∙ rows-ones n)))

-- as many as it has rows
pub full-long : (n : ℕ) (index made : ColumnIndex) → index ≡ made
    → counts_in n (shape_of made) ≡ map (λ row. 1) (range_with_len 0 n) → length (counts_in n (shape_of index)) ≡ n
full-long n index made e f =
    ap (λ i. length (counts_in n (shape_of i))) e ∙ ap length f ∙ length-map (range_with_len 0 n) (λ row. 1)
    ∙ length-range_with_len 0 n

-- those of an empty one
pub empty-behind : (b n : ℕ) (index made : ColumnIndex) → index ≡ made
    → counts_in n (shape_of made) ≡ map (λ row. 0) (range_with_len 0 n) → [] ≡ rows_behind b (counts_in n (shape_of index))
empty-behind b n index made e f =
    ap (λ rows. map (λ z. b + z) rows) (sym (rows_as n index made [] e (ap rows_with_value f ∙ rows-zeros n)))

-- ---- segments

-- with the rows of the segments from one on these runs become those of all rows
abbrev pub Become : Segments → ℕ → ℕ → List (ℕ × ℕ) → Type 0
Become s k before runs =
    (all : List (ℕ × ℕ)) → HaveMore runs all (rows_behind before (counts_from s k))
    → all ≡ runs_of (rows_with_value (stacked_counts s))

-- no rows have no runs
pub none-runs : [] ≡ runs_of []
unfolding runs_of
none-runs = refl

-- no runs do at the front
pub become-front : (s : Segments) (runs : List (ℕ × ℕ)) → runs ≡ [] → Become s 0 0 runs
become-front s runs e all f = f [] (e ∙ none-runs) ∙ ap runs_of (rows-front s)

-- those with the rows of one more segment do, where its index was read, and m is its number of rows
pub become-more : (indexes : List ColumnIndex) (counts : List ℕ) (k n m b : ℕ) (index : ColumnIndex) (old new : List (ℕ × ℕ))
    → AreSegments (index_segments indexes counts) → k < length counts → n ≡ get_or counts k 0
    → index ≡ get_or indexes k index → m ≡ n → b ≡ start_of counts k
    → HaveMore old new (rows_behind b (counts_in n (shape_of index))) → Become (index_segments indexes counts) k b old
    → (b + m ≡ start_of counts (k + 1)) × Become (index_segments indexes counts) (k + 1) (b + m) new
become-more indexes counts k n m b index old new are within e f many g have become =
    let s = index_segments indexes counts in
    let segment = rows_behind b (counts_in n (shape_of index)) in
    let rest = rows_behind (b + m) (counts_from s (k + 1)) in
    let more = rows-appended indexes counts k n m b index [] segment are within e f many g refl in (
      more.0,
      λ all h. become all (more-same old all (segment ++ rest) (rows_behind b (counts_from s k)) more.1
          (more-then old new all segment rest have h)),
    )

-- behind the last segment they are
pub become-end : (s : Segments) (k before : ℕ) (runs : List (ℕ × ℕ)) → AreSegments s → length s.counts ≤ k
    → Become s k before runs → runs ≡ runs_of (rows_with_value (stacked_counts s))
become-end s k before runs are h f =
    f runs (more-same runs runs [] (rows_behind before (counts_from s k)) (rows-end s k before [] are h) (more-none runs))
