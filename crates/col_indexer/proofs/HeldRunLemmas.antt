-- Runs to which those of an index are added, so far behind.
use Rattle.std.proofs.Common.{◌≡◌, ℕ, ◌+◌, ◌≤◌, List, [], ◌∷◌, ◌++◌, length, map, flat_map, take, slice_get, Some, sym, ap, ◌∙◌}
use Rattle.std.specs.List.{range_with_len}
use Rattle.std.proofs.lemmas.List.{take_more, take_all, map-append, flat_map_more}
use Rattle.std.proofs.lemmas.Option.{get_or_from_slice_get, slice_get_within}
use Rattle.col_model.specs.Index.{RowSet, runs_of, set_counts}
use Rattle.col_model.proofs.RowRunLaws.{runs-rows}
use Rattle.col_index.specs.Indexes.{shape_of}
use Rattle.col_index.specs.declared.column_index.ColumnIndex.{ColumnIndex}
use Rattle.col_index.proofs.CountLaws.{set_counts-rows, length-set_counts}
use Rattle.col_index.proofs.RowsLaws.{rows_with_value-from}
use Rattle.col_index.specs.Sets.{AreRows}
use Rattle.col_indexer.specs.Counted.{rows_behind, counts_in}
use Rattle.col_indexer.specs.Runs.{HaveMore}
use Rattle.col_indexer.proofs.CountedLemmas.{rows_behind-from}
use Rattle.col_indexer.proofs.RunStackLemmas.{more-then, more-same, numbers-behind, none-runs}

-- the rows of runs, so far behind
abbrev pub behind : ℕ → List (ℕ × ℕ) → List ℕ
behind before runs = map (λ z. before + z) (flat_map (λ r. range_with_len r.0 r.1) runs)

-- those of one run more
pub held-more : (a b c : List (ℕ × ℕ)) (runs : List (ℕ × ℕ)) (before k : ℕ) (run : ℕ × ℕ) (start : ℕ)
    → HaveMore a b (behind before (take k runs)) → slice_get runs k ≡ Some run → start ≡ before + run.0
    → HaveMore b c (range_with_len start run.1) → HaveMore a c (behind before (take (k + 1) runs))
held-more a b c runs before k run start f e g h =
    let inside = slice_get_within runs k run e in
    let rows = λ (rs : List (ℕ × ℕ)). flat_map (λ r. range_with_len r.0 r.1) rs in
    let next : take (k + 1) runs ≡ take k runs ++ run ∷ [] =
    take_more runs k run inside ∙ ap (λ r. take k runs ++ r ∷ []) (get_or_from_slice_get runs k run run e) in
    let moved : map (λ z. before + z) (range_with_len run.0 run.1) ≡ range_with_len start run.1 =
    numbers-behind before run.0 run.1 ∙ ap (λ m. range_with_len m run.1) (sym g) in
    let whole : behind before (take (k + 1) runs) ≡ behind before (take k runs) ++ range_with_len start run.1 =
    ap (behind before) next
    ∙ ap (map (λ z. before + z)) (sym (flat_map_more (λ r. range_with_len r.0 r.1) [] (take k runs) run))
    ∙ map-append (λ z. before + z) (rows (take k runs)) (range_with_len run.0 run.1)
    ∙ ap (λ xs. behind before (take k runs) ++ xs) moved in
    more-same a c (behind before (take k runs) ++ range_with_len start run.1) (behind before (take (k + 1) runs)) (sym whole)
    (more-then a b c (behind before (take k runs)) (range_with_len start run.1) f h)

-- all of them are the rows with a value
pub held-all : (a b : List (ℕ × ℕ)) (s : RowSet) (runs : List (ℕ × ℕ)) (before k : ℕ) → AreRows s → runs ≡ runs_of s.rows
    → length runs ≤ k → HaveMore a b (behind before (take k runs)) → HaveMore a b (rows_behind before (set_counts s))
held-all a b s runs before k rise e h f =
    let whole : take k runs ≡ runs_of s.rows = take_all k runs h ∙ e in
    more-same a b (behind before (take k runs)) (rows_behind before (set_counts s))
    (ap (behind before) whole ∙ ap (map (λ z. before + z)) (runs-rows s.rows ∙ sym (set_counts-rows s rise))) f

-- ---- of an index whose rows have at most one value each

-- its counts are as many as its rows
pub held-long : (n : ℕ) (index made : ColumnIndex) (s : RowSet) → index ≡ made → counts_in n (shape_of made) ≡ set_counts s
    → length (counts_in n (shape_of index)) ≡ s.num_rows
held-long n index made s e f = ap (λ i. length (counts_in n (shape_of i))) e ∙ ap length f ∙ length-set_counts s

-- with nothing in front, its runs are those of its rows
pub held-first : (a b : List (ℕ × ℕ)) (s : RowSet) → AreRows s → a ≡ [] → HaveMore a b (rows_behind 0 (set_counts s))
    → b ≡ runs_of s.rows
held-first a b s rise e f =
    f [] (e ∙ none-runs)
    ∙ ap runs_of
    (rows_behind-from 0 (set_counts s) ∙ sym (rows_with_value-from (set_counts s)) ∙ set_counts-rows s rise)
