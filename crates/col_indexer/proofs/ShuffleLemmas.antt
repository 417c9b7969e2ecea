-- Rows that are picked one by one.
use Rattle.std.proofs.Common.{◌≡◌, ◌≢◌, ℕ, zero, suc, ◌+◌, ◌<◌, ◌≤◌, ◌==◌, not, List, [], ◌∷◌, ◌++◌, true, false, length, get_or, drop, take, map, slice_index_or, refl, sym, ap, ◌∙◌, arith}
use Rattle.std.specs.List.{list_all, sum}
use Rattle.std.proofs.Math.ListN.{drop_of_length-le}
use Rattle.std.proofs.lemmas.Bool.Decides.{nat_tests}
use Rattle.std.proofs.lemmas.List.{drop_more, get_or-map, length-map}
use Rattle.std.proofs.lemmas.List.Sums.{sum_by_more, sum_by-take-le}
use Rattle.col_common.specs.declared.iterable.Walk.{Walk}
use Rattle.col_common.specs.declared.row.RowAddr.{RowAddr}
use Rattle.col_model.specs.Index.{empty_shape}
use Rattle.col_model.specs.Order.{has_row}
use Rattle.col_model.specs.Positions.{picked_counts, count_in, starts_of}
use Rattle.col_order.specs.Orders.{Shuffle, address_of}
use Rattle.col_order.proofs.MarkedLemmas.{row_there}
use Rattle.col_indexer.specs.Counted.{rows_behind, ends_behind}
use Rattle.col_index.specs.Indexes.{shape_of}
use Rattle.col_indexer.specs.Merged.{FitSegments}
use Rattle.col_indexer.specs.Shuffles.{Picked, shuffled_counts}
use Rattle.col_index.specs.declared.column_index.ColumnIndex.{ColumnIndex}
use Rattle.col_indexer.proofs.CountedLemmas.{rows_behind-none, rows_behind-some, ends_behind-none, ends_behind-some, starts_of-ends}
use Rattle.col_indexer.proofs.SegmentLemmas.{length-fit}

-- what a list of indexes and addresses has to do with the shapes and an order over them
pub record AreOf (indexes : List ColumnIndex) (addrs : List RowAddr) (p : Picked) : Type 0 where
  pub shapes : map shape_of indexes ≡ p.shapes
  pub addresses : map address_of addrs ≡ p.order.addresses

-- they are what a walk sees
pub are_of : (indexes : List ColumnIndex) (addrs : List RowAddr) (order : Shuffle) (p : Picked)
    → ◌≡◌ {A = Picked} (record { shapes = map shape_of indexes; order = order }) p
    → map address_of addrs ≡ order.addresses → AreOf indexes addrs p
are_of indexes addrs order p e f = record { shapes = ap (λ q. q.shapes) e; addresses = f ∙ ap (λ q. q.order.addresses) e }

-- the segment that an address names has an index
pub segment-there : (indexes : List ColumnIndex) (addrs : List RowAddr) (counts : List ℕ) (k : ℕ) (d : RowAddr)
    → FitSegments counts (map shape_of indexes) → list_all (has_row counts) (map address_of addrs) ≡ true
    → k < length addrs → (get_or addrs k d).segment_ord < length indexes
segment-there indexes addrs counts k d fit named h =
    let there = row_there counts addrs k d named h in
    let many = length-fit counts (map shape_of indexes) fit in
    let long = length-map indexes shape_of in
    omega (arith, there.0)

-- a count for each pick
pub length-shuffled : (p : Picked) → length (shuffled_counts p) ≡ length p.order.addresses
unfolding picked_counts
length-shuffled p = length-map p.order.addresses (λ a. count_in (slice_index_or p.shapes a.0 (empty_shape 0)) a.1)

-- as many as addresses that are walked
pub length-walked : (indexes : List ColumnIndex) (addrs : List RowAddr) (p : Picked) → AreOf indexes addrs p
    → length (shuffled_counts p) ≡ length addrs
length-walked indexes addrs p are = length-shuffled p ∙ ap (λ all. length all) (sym are.addresses) ∙ length-map addrs address_of

-- the count of a pick is that of the row that its address names
pub count-there : (indexes : List ColumnIndex) (addrs : List RowAddr) (p : Picked) (k n : ℕ) (d : RowAddr)
    → AreOf indexes addrs p → k < length addrs
    → n ≡ count_in (slice_index_or (map shape_of indexes) (get_or addrs k d).segment_ord (empty_shape 0))
    (get_or addrs k d).row_id → get_or (shuffled_counts p) k 0 ≡ n
unfolding picked_counts
count-there indexes addrs p k n d are h e =
    let addr = get_or addrs k d in
    let count : ℕ × ℕ → ℕ = λ a. count_in (slice_index_or p.shapes a.0 (empty_shape 0)) a.1 in
    let long : k < length (map address_of addrs) = omega (arith, length-map addrs address_of) in
    ap (λ all. get_or (map count all) k 0) (sym are.addresses)
    ∙ get_or-map count (map address_of addrs) k (address_of addr) 0 long
    ∙ ap count (get_or-map address_of addrs k d (address_of addr) h)
    ∙ ap (λ shapes. count_in (slice_index_or shapes addr.segment_ord (empty_shape 0)) addr.row_id) (sym are.shapes)
    ∙ sym e

-- and there is one
pub pick-there : (indexes : List ColumnIndex) (addrs : List RowAddr) (p : Picked) (k n : ℕ) (d : RowAddr)
    → AreOf indexes addrs p → k < length addrs
    → n ≡ count_in (slice_index_or (map shape_of indexes) (get_or addrs k d).segment_ord (empty_shape 0))
    (get_or addrs k d).row_id → (k < length (shuffled_counts p)) × (get_or (shuffled_counts p) k 0 ≡ n)
pick-there indexes addrs p k n d are h e = (omega (arith, length-walked indexes addrs p are), count-there indexes addrs p k n d are h e)

-- what is read where there is no address
abbrev pub nowhere : RowAddr
nowhere = record { segment_ord = 0; row_id = 0 }

-- how many values the row has that an address names
abbrev pub count_of : List ColumnIndex → RowAddr → ℕ
count_of indexes a = count_in (slice_index_or (map shape_of indexes) a.segment_ord (empty_shape 0)) a.row_id

module _ (indexes : List ColumnIndex) (addrs : List RowAddr) (order : Shuffle) (k : ℕ) (lent : map address_of addrs ≡ order.addresses) where
  -- the segment of an address that an order lends has an index
  pub segment-walked : FitSegments order.counts (map shape_of indexes) → list_all (has_row order.counts) order.addresses ≡ true
      → k < length addrs → (get_or addrs k nowhere).segment_ord < length indexes
  segment-walked fit named h =
      segment-there indexes addrs order.counts k nowhere fit (ap (λ all. list_all (has_row order.counts) all) lent ∙ named) h

  module _ (p : Picked) (view : ◌≡◌ {A = Picked} (record { shapes = map shape_of indexes; order = order }) p) where
    -- the count of a pick that is walked is that of the row that its address names
    pub pick-walked : k < length addrs
        → (k < length (shuffled_counts p)) × (get_or (shuffled_counts p) k 0 ≡ count_of indexes (get_or addrs k nowhere))
    pick-walked h = pick-there indexes addrs p k _ nowhere (are_of indexes addrs order p view lent) h refl

    -- behind the last address there is no count
    pub walked-end : length addrs ≤ k → length (shuffled_counts p) ≤ k
    walked-end h = omega (arith, length-walked indexes addrs p (are_of indexes addrs order p view lent))

-- what a test tells of a count of 0
pub count-none : (n : ℕ) → false ≡ not (n == 0) → n ≡ 0
count-none n e = grind (arith, nat_tests)

-- and of another
pub count-some : (n : ℕ) → true ≡ not (n == 0) → n ≢ 0
count-some n e = grind (arith, nat_tests)

-- ---- what a walk of rows has still to give

-- a pick without a value is passed
pub picks-none : (cs : List ℕ) (k : ℕ) → k < length cs → get_or cs k 0 ≡ 0
    → rows_behind k (drop k cs) ≡ rows_behind (k + 1) (drop (k + 1) cs)
picks-none cs k h e = ap (rows_behind k) (drop_more cs k 0 h ∙ ap (λ c. c ∷ drop (k + 1) cs) e) ∙ rows_behind-none k (drop (k + 1) cs)

first_row : (k c : ℕ) (cs : List ℕ) → c ≢ 0 → rows_behind k (c ∷ cs) ≡ k ∷ rows_behind (k + 1) cs
first_row k zero cs e = absurd (e refl)
first_row k (suc c) cs e = rows_behind-some k c cs

-- a pick with a value is the next
pub picks-some : (cs : List ℕ) (k : ℕ) → k < length cs → get_or cs k 0 ≢ 0
    → rows_behind k (drop k cs) ≡ k ∷ rows_behind (k + 1) (drop (k + 1) cs)
picks-some cs k h e = ap (rows_behind k) (drop_more cs k 0 h) ∙ first_row k (get_or cs k 0) (drop (k + 1) cs) e

-- behind the last there is none
pub picks-end : (cs : List ℕ) (k : ℕ) → length cs ≤ k → rows_behind k (drop k cs) ≡ []
picks-end cs k h = ap (rows_behind k) (drop_of_length-le cs h)

-- ---- what a walk of offsets has still to give

-- the first 0 was given
pub first-given : (inner : ℕ) (ends : List ℕ) → inner ≡ 1 → drop inner (0 ∷ []) ++ ends ≡ ends
first-given inner ends e = ap (λ i. drop i (0 ∷ []) ++ ends) e

-- a pick without a value is passed
pub sums-none : (cs : List ℕ) (k before : ℕ) → k < length cs → get_or cs k 0 ≡ 0
    → ends_behind before (drop k cs) ≡ ends_behind before (drop (k + 1) cs)
sums-none cs k before h e =
    ap (ends_behind before) (drop_more cs k 0 h ∙ ap (λ c. c ∷ drop (k + 1) cs) e)
    ∙ ends_behind-none before (drop (k + 1) cs)

first_end : (before n : ℕ) (cs : List ℕ) → n ≢ 0 → ends_behind before (n ∷ cs) ≡ (before + n) ∷ ends_behind (before + n) cs
first_end before zero cs e = absurd (e refl)
first_end before (suc n) cs e = ends_behind-some before n cs

-- the values of a pick end so far behind
pub sums-some : (cs : List ℕ) (k before n : ℕ) → k < length cs → get_or cs k 0 ≡ n → n ≢ 0
    → ends_behind before (drop k cs) ≡ (before + n) ∷ ends_behind (before + n) (drop (k + 1) cs)
sums-some cs k before n h e f =
    ap (ends_behind before) (drop_more cs k 0 h ∙ ap (λ c. c ∷ drop (k + 1) cs) e) ∙ first_end before n (drop (k + 1) cs) f

-- behind the last there is none
pub sums-end : (cs : List ℕ) (k before : ℕ) → length cs ≤ k → ends_behind before (drop k cs) ≡ []
unfolding ends_behind
sums-end cs k before h = ap (ends_behind before) (drop_of_length-le cs h)

-- a walk at the front has still to give all offsets
pub sums-front : (cs : List ℕ) (w : Walk) → w.place ≡ 0 → w.inner ≡ 0 → w.sum ≡ 0
    → drop w.inner (0 ∷ []) ++ ends_behind w.sum (drop w.place cs) ≡ starts_of cs
sums-front cs w e f g =
    ap (λ i. drop i (0 ∷ []) ++ ends_behind w.sum (drop w.place cs)) f
    ∙ ap (λ b. 0 ∷ ends_behind b (drop w.place cs)) g
    ∙ ap (λ k. 0 ∷ ends_behind 0 (drop k cs)) e
    ∙ sym (starts_of-ends cs)

-- the sum goes up by the count, and stays within that of all
pub sum-step : (cs : List ℕ) (k before n : ℕ) → k < length cs → get_or cs k 0 ≡ n → before ≡ sum (take k cs)
    → (before + n ≡ sum (take (k + 1) cs)) × (before + n ≤ sum cs)
sum-step cs k before n h e f =
    let more = sum_by_more (λ x. x) cs k 0 h in
    let within = sum_by-take-le (λ x. x) cs (k + 1) in
    let same : before + n ≡ sum (take (k + 1) cs) = omega arith in
    (same, omega arith)
