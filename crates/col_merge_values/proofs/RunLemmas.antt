-- Steps of a walk over runs of values.
use Rattle.std.proofs.Common.{◌≡◌, ◌≢◌, ℕ, zero, suc, Bool, true, ◌+◌, ◌-◌, ◌<◌, ◌≤◌, ◌^◌, List, [], ◌∷◌, ◌++◌, length, drop, take, get_or, slice_get, slice_range, Some, sym, ap, ◌∙◌, arith}
use Rattle.std.specs.List.{list_all}
use Rattle.std.proofs.lemmas.Bool.{and_parts, lt-ltb, true≢false}
use Rattle.std.proofs.lemmas.Grind.{common_steps}
use Rattle.std.proofs.lemmas.List.{drop_more, get_or-map, length-map}
use Rattle.std.proofs.lemmas.Option.{gets, get_or_from_slice_get, slice_get_cases}
use Rattle.col_common.specs.declared.iterable.Walk.{Walk}
use Rattle.col_common.specs.declared.row.RowAddr.{RowAddr}
use Rattle.col_model.specs.Order.{shuffle, has_row}
use Rattle.col_model.specs.U64List.{joined_lists}
use Rattle.col_order.specs.Orders.{address_of}
use Rattle.col_index.specs.Offsets.{positions_if_any}
use Rattle.col_column.specs.Columns.{AreOf}
use Rattle.col_column.proofs.FirstLemmas.{range_step}
use Rattle.col_column.proofs.RowLemmas.{row_values-if_any}
use Rattle.col_merge_values.specs.Merges.{SegmentColumns, AreColumns, segment_shape, segment_values, picked_row, merged_rows, Merge, IsMerge, merge_of, values_of, runs_by, StandsInRun, values_to_give, Finds}
use Rattle.col_merge_values.proofs.StackedValueLemmas.{runs-joined}

-- a walk whose run has nothing left, and which still gives what it gave at first
pub record IsBetweenRuns {T : Type 0} (c : SegmentColumns T) (w : Walk) (rest first : List T) : Type 0 where
  pub stands : StandsInRun c w
  pub given : w.inner ≡ w.sum
  pub left : rest ≡ first

-- a run of which nothing is left
pub run-given : {T : Type 0} (xs rest : List T) (i e : ℕ) → i ≡ e → slice_range xs i e ++ rest ≡ rest
run-given xs rest i e same =
    let none : e - i ≡ 0 = omega arith in
    ap (λ n. take n (drop i xs) ++ rest) none

-- a value of a run is taken
pub run-step : {T : Type 0} (xs rest : List T) (i e : ℕ) (x : T) → slice_get xs i ≡ Some x → i < e → e ≤ length xs
    → slice_range xs i e ++ rest ≡ x ∷ (slice_range xs (i + 1) e ++ rest)
run-step xs rest i e x value below within = ap (λ ys. ys ++ rest) (range_step xs i e x value below within)

-- the run at a place, and those behind it
pub runs-more : {T : Type 0} (xss : List (List T)) (k : ℕ) → k < length xss
    → joined_lists (drop k xss) ≡ get_or xss k [] ++ joined_lists (drop (k + 1) xss)
runs-more xss k h = ap joined_lists (drop_more xss k [] h)

module _ {T : Type 0} (c : SegmentColumns T) where
  -- a picked row, as a run
  pub row-run : (picks : List (ℕ × ℕ)) (k : ℕ) (p : ℕ × ℕ) (a b : ℕ) → slice_get picks k ≡ Some p → k < length picks
      → AreOf (segment_values c p.0) (a, b) (picked_row c p)
      → joined_lists (drop k (merged_rows c picks))
      ≡ slice_range (segment_values c p.0) a b ++ joined_lists (drop (k + 1) (merged_rows c picks))
  row-run picks k p a b read h are =
      let long : k < length (merged_rows c picks) = omega (arith, length-map picks (picked_row c)) in
      let here : get_or (merged_rows c picks) k [] ≡ picked_row c p =
      get_or-map (picked_row c) picks k p [] h ∙ ap (picked_row c) (get_or_from_slice_get picks k p p read) in
      runs-more (merged_rows c picks) k long ∙ ap (λ ys. ys ++ joined_lists (drop (k + 1) (merged_rows c picks))) (here ∙ sym are.values)

  -- a picked row without values is passed
  pub row-passed : (picks : List (ℕ × ℕ)) (k : ℕ) (p : ℕ × ℕ) (a b : ℕ) → slice_get picks k ≡ Some p
      → k < length picks → AreOf (segment_values c p.0) (a, b) (picked_row c p) → a ≡ b
      → joined_lists (drop (k + 1) (merged_rows c picks)) ≡ joined_lists (drop k (merged_rows c picks))
  row-passed picks k p a b read h are none =
      sym (row-run picks k p a b read h are
      ∙ run-given (segment_values c p.0) (joined_lists (drop (k + 1) (merged_rows c picks))) a b none)

-- a walk at the front has still to give all values
pub walk-front : {T : Type 0} (m : Merge T) (w : Walk) → IsMerge m → w.place ≡ 0 → w.inner ≡ 0 → w.sum ≡ 0
    → values_to_give m w ≡ values_of m
walk-front m w is place inner sum =
    run-given (segment_values m.columns w.segment) (joined_lists (drop w.place (runs_by m.columns m.order))) w.inner w.sum (inner ∙ sym sum)
    ∙ ap (λ k. joined_lists (drop k (runs_by m.columns m.order))) place
    ∙ runs-joined m.columns m.order is

-- ---- what a search for a run finds

-- a run of which a value is left
pub run-found : {T : Type 0} (m : Merge T) (a b : Walk) → StandsInRun m.columns b
    → values_to_give m b ≡ values_to_give m a → b.inner < b.sum → Finds m a b true
run-found m a b stands same more =
    record
    { stands = stands; same = same; found_is = sym (lt-ltb b.inner b.sum more); none = λ e. absurd (true≢false e) }

-- a picked row with a value
pub row-found :
    {T : Type 0} (c : SegmentColumns T) (counts : List ℕ) (picks : List (ℕ × ℕ)) (a b : Walk) (k start end : ℕ) (p : ℕ × ℕ)
    → slice_get picks k ≡ Some p → k < length picks → AreOf (segment_values c p.0) (start, end) (picked_row c p)
    → joined_lists (drop k (merged_rows c picks)) ≡ values_to_give (merge_of c (shuffle counts picks)) a
    → b.segment ≡ p.0 → b.place ≡ k + 1 → b.inner ≡ start → b.sum ≡ end → start ≢ end → end < 2 ^ 32
    → Finds (merge_of c (shuffle counts picks)) a b true
row-found c counts picks a b k start end p read h are left segment place inner sum some few =
    let order = are.order in
    let within = are.within in
    let long : b.sum ≤ length (segment_values c b.segment) = rw (segment, sum) within in
    let stands : StandsInRun c b = record { run = omega arith; within = long; few = omega arith } in
    let same : values_to_give (merge_of c (shuffle counts picks)) b ≡ values_to_give
    (merge_of c (shuffle counts picks)) a = rw (segment, place, inner, sum)
    (sym (row-run c picks k p start end read h are) ∙ left) in
    run-found (merge_of c (shuffle counts picks)) a b stands same (omega arith)

-- ---- rows that addresses name

-- an item of a list that passes passes
pub passes-at : {A : Type 0} (test : A → Bool) (xs : List A) (k : ℕ) (x : A) → list_all test xs ≡ true
    → slice_get xs k ≡ Some x → test x ≡ true
passes-at test [] zero x all e = grind arith
passes-at test [] (suc k) x all e = grind arith
passes-at test (y ∷ xs) zero x all e = let first = (and_parts (test y) (list_all test xs) all).0 in grind arith
passes-at test (y ∷ xs) (suc k) x all e = passes-at test xs k x (and_parts (test y) (list_all test xs) all).1 e

-- a row that passes the test is one of its segment
pub row-within : (counts : List ℕ) (p : ℕ × ℕ) → has_row counts p ≡ true → (p.0 < length counts) × (p.1 < get_or counts p.0 0)
row-within counts p h = grind (arith, common_steps, gets, slice_get_cases counts p.0)

-- a row that is named is one of a segment that has a list
pub segment-named : {T : Type 0} (c : SegmentColumns T) (counts : List ℕ) (addresses : List (ℕ × ℕ)) (k : ℕ) (p : ℕ × ℕ)
    → AreColumns counts c → list_all (has_row counts) addresses ≡ true → slice_get addresses k ≡ Some p
    → p.0 < length c.lists
segment-named c counts addresses k p are all e =
    omega (arith, (row-within counts p (passes-at (has_row counts) addresses k p all e)).0, are.lists)

-- the positions of the values of a row that an address names
pub row-positions : {T : Type 0} (c : SegmentColumns T) (counts : List ℕ) (addr : RowAddr) (start end : ℕ)
    → AreColumns counts c → has_row counts (address_of addr) ≡ true
    → start ≡ (positions_if_any (segment_shape c addr.segment_ord) addr.row_id).0
    → end ≡ (positions_if_any (segment_shape c addr.segment_ord) addr.row_id).1
    → AreOf (segment_values c addr.segment_ord) (start, end) (picked_row c (address_of addr))
row-positions c counts addr start end are named first last =
    let there = row-within counts (address_of addr) named in
    let column = are.each addr.segment_ord there.0 in
    rw (first, last) (row_values-if_any (segment_shape c addr.segment_ord) (segment_values c addr.segment_ord)
    addr.row_id column.counted (omega (arith, there.1, column.rows)))
