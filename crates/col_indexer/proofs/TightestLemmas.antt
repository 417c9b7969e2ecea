-- The tightest cardinality of rows.
use Rattle.std.proofs.Common.{◌≡◌, ◌≢◌, ℕ, ◌+◌, ◌<◌, ◌≤◌, ◌==◌, ◌&&◌, nat_le, Bool, cond, true, false, zero, suc, List, [], ◌∷◌, map, length, get_or, slice_index_or, take, refl, sym, ap, ◌∙◌, arith}
use Rattle.std.specs.List.{list_all, AllByRecursion}
use Rattle.std.proofs.Math.Bool.{and-true}
use Rattle.std.proofs.lemmas.Bool.{and_from, and_parts, and_right}
use Rattle.std.proofs.lemmas.Bool.Decides.{nat_tests}
use Rattle.std.proofs.lemmas.List.Folds.{list_all_at, list_all_more, list_all-map}
use Rattle.std.proofs.lemmas.Grind.{common_steps}
use Rattle.std.proofs.lemmas.Option.{slice_get_cases, gets}
use Rattle.col_model.specs.Index.{RowSet, set_counts, empty_shape, full_shape}
use Rattle.col_model.specs.Order.{has_row}
use Rattle.col_model.specs.Positions.{picked_counts, count_in}
use Rattle.col_model.specs.Table.{full, optional, multivalued, Cell}
use Rattle.col_model.specs.Limits.{tightest}
use Rattle.col_index.specs.Sets.{AreRows, holds}
use Rattle.col_index.specs.Indexes.{shape_of}
use Rattle.col_index.proofs.CountLaws.{set_counts-at}
use Rattle.col_index.specs.declared.column_index.ColumnIndex.{ColumnIndex}
use Rattle.col_indexer.specs.Counted.{tightest_of, HasFew}
use Rattle.col_model.specs.Table as tables

-- no row has more than one value
abbrev pub AreFew : List ℕ → Type 0
AreFew cs = list_all (λ c. nat_le c 1) cs ≡ true

-- a row with more than one value
pub tightest-many : (cs : List ℕ) (i : ℕ) → i < length cs → 1 < get_or cs i 0 → multivalued ≡ tightest_of cs
tightest-many cs i h more =
    let other : (get_or cs i 0 == 1) ≡ false = grind (arith, nat_tests) in
    let above : nat_le (get_or cs i 0) 1 ≡ false = grind (arith, nat_tests) in
    sym (rw (list_all_at (λ c. c == 1) cs i 0 h other, list_all_at (λ c. nat_le c 1) cs i 0 h above) refl)

few_more : (cs : List ℕ) (i : ℕ) → i < length cs → get_or cs i 0 ≤ 1 → AreFew (take i cs) → AreFew (take (i + 1) cs)
few_more cs i h one few =
    let within : nat_le (get_or cs i 0) 1 ≡ true = grind (arith, nat_tests) in
    list_all_more (λ c. nat_le c 1) cs i 0 h ∙ and_from (list_all (λ c. nat_le c 1) (take i cs)) (nat_le (get_or cs i 0) 1) few within

-- one more row, with no value
pub tightest-none : (cs : List ℕ) (i : ℕ) → i < length cs → get_or cs i 0 ≡ 0 → AreFew (take i cs)
    → AreFew (take (i + 1) cs) × (optional ≡ tightest_of (take (i + 1) cs))
tightest-none cs i h none few =
    let more = few_more cs i h (omega arith) few in
    let some : (get_or cs i 0 == 1) ≡ false = grind (arith, nat_tests) in
    let ones : list_all (λ c. c == 1) (take (i + 1) cs) ≡ false =
    list_all_more (λ c. c == 1) cs i 0 h
    ∙ and_right (list_all (λ c. c == 1) (take i cs)) (get_or cs i 0 == 1) some in
    (more, sym (rw (ones, more) refl))

-- one more row, with one value
pub tightest-one : (cs : List ℕ) (i : ℕ) → i < length cs → get_or cs i 0 ≡ 1 → AreFew (take i cs)
    → AreFew (take (i + 1) cs) × (tightest_of (take i cs) ≡ tightest_of (take (i + 1) cs))
tightest-one cs i h one few =
    let more = few_more cs i h (omega arith) few in
    let same : (get_or cs i 0 == 1) ≡ true = grind (arith, nat_tests) in
    let ones : list_all (λ c. c == 1) (take (i + 1) cs) ≡ list_all (λ c. c == 1) (take i cs) =
    list_all_more (λ c. c == 1) cs i 0 h ∙ ap (λ b. list_all (λ c. c == 1) (take i cs) && b) same
    ∙ and-true (list_all (λ c. c == 1) (take i cs)) in
    (more, sym (rw (ones, more, few) refl))

-- each row has one value
pub tightest-ones : (cs : List ℕ) → list_all (λ c. c == 1) cs ≡ true → full ≡ tightest_of cs
tightest-ones cs ones = sym (rw ones refl)

-- a row without a value, where none has more than one
pub tightest-missing : (cs : List ℕ) (i : ℕ) → i < length cs → get_or cs i 0 ≡ 0 → AreFew cs → optional ≡ tightest_of cs
tightest-missing cs i h none few =
    let other : (get_or cs i 0 == 1) ≡ false = grind (arith, nat_tests) in
    sym (rw (list_all_at (λ c. c == 1) cs i 0 h other, few) refl)

-- at least one, and at most one
pub one-value : (c n : ℕ) → c ≡ n → n ≢ 0 → n ≤ 1 → c ≡ 1
one-value c zero e some few = absurd (some refl)
one-value c (suc n) e some few = omega arith

-- one more row with one value
pub ones-more : (cs : List ℕ) (i : ℕ) → i < length cs → get_or cs i 0 ≡ 1
    → list_all (λ c. c == 1) (take i cs) ≡ true → list_all (λ c. c == 1) (take (i + 1) cs) ≡ true
ones-more cs i h one ones =
    let same : (get_or cs i 0 == 1) ≡ true = grind (arith, nat_tests) in
    list_all_more (λ c. c == 1) cs i 0 h ∙ and_from (list_all (λ c. c == 1) (take i cs)) (get_or cs i 0 == 1) ones same

-- a set has at most one value in a row
pub set-few : (s : RowSet) → AreRows s → (row : ℕ) → get_or (set_counts s) row 0 ≤ 1
set-few s a row = go (holds s.rows row) (set_counts-at s a row)
  where
    go : (b : Bool) → get_or (set_counts s) row 0 ≡ cond b 1 0 → get_or (set_counts s) row 0 ≤ 1
    go true e = omega arith
    go false e = omega arith

-- ---- rows that are picked

-- indexes whose rows have at most one value
pub few-at : (indexes : List ColumnIndex) → AllByRecursion (λ index. HasFew (shape_of index)) indexes → (k row : ℕ)
    → count_in (slice_index_or (map shape_of indexes) k (empty_shape 0)) row ≤ 1
few-at [] all k row = omega arith
few-at (i ∷ is) all zero row = all.0 row
few-at (i ∷ is) all (suc k) row = few-at is all.1 k row

few_test : (n : ℕ) → n ≤ 1 → nat_le n 1 ≡ true
few_test n h = grind (arith, nat_tests)

-- picked rows of indexes whose rows have at most one value have at most one each
pub few-picked : (indexes : List ColumnIndex) → AllByRecursion (λ index. HasFew (shape_of index)) indexes
    → (picks : List (ℕ × ℕ)) → AreFew (picked_counts (map shape_of indexes) picks)
unfolding picked_counts
few-picked indexes all [] = refl
few-picked indexes all (p ∷ ps) =
    and_from (nat_le (count_in (slice_index_or (map shape_of indexes) p.0 (empty_shape 0)) p.1) 1) _
    (few_test _ (few-at indexes all p.0 p.1)) (few-picked indexes all ps)

-- indexes whose rows have one value each
full-at : (indexes : List ColumnIndex) → AllByRecursion (λ index. shape_of index ≡ full_shape) indexes → (k : ℕ)
    → k < length indexes → slice_index_or (map shape_of indexes) k (empty_shape 0) ≡ full_shape
full-at [] all k h = absurd (omega arith)
full-at (i ∷ is) all zero h = all.0
full-at (i ∷ is) all (suc k) h = full-at is all.1 k (omega arith)

-- a row that a segment has is of a segment that is there
pub segment_named : (counts : List ℕ) (p : ℕ × ℕ) → has_row counts p ≡ true → p.0 < length counts
segment_named counts p h = grind (arith, common_steps, gets, slice_get_cases counts p.0)

one_test : (n : ℕ) → n ≡ 1 → (n == 1) ≡ true
one_test n e = grind (arith, nat_tests)

-- picked rows of indexes whose rows have one value each have one each
pub ones-picked : (indexes : List ColumnIndex) (counts : List ℕ)
    → AllByRecursion (λ index. shape_of index ≡ full_shape) indexes → length counts ≡ length indexes
    → (picks : List (ℕ × ℕ)) → list_all (has_row counts) picks ≡ true
    → list_all (λ c. c == 1) (picked_counts (map shape_of indexes) picks) ≡ true
unfolding picked_counts
ones-picked indexes counts all long [] named = refl
ones-picked indexes counts all long (p ∷ ps) named =
    let parts = and_parts (has_row counts p) (list_all (has_row counts) ps) named in
    let within = segment_named counts p parts.0 in
    let one = ap (λ s. count_in s p.1) (full-at indexes all p.0 (omega arith)) in
    and_from (count_in (slice_index_or (map shape_of indexes) p.0 (empty_shape 0)) p.1 == 1) _ (one_test _ one)
    (ones-picked indexes counts all long ps parts.1)

-- the tightest cardinality is that of their counts
pub tightest-counts : (rows : List (List Cell)) → tightest rows ≡ tightest_of (map length rows)
tightest-counts rows =
    λ i. cond (sym (list_all-map (λ c. c == 1) length rows) i) tables.full
    (cond (sym (list_all-map (λ c. nat_le c 1) length rows) i) tables.optional tables.multivalued)
