-- Which segments keep a column.
use Rattle.std.proofs.Common.{◌≡◌, ◌⊎◌, inl, inr, ℕ, zero, suc, ◌+◌, ◌<◌, ◌≤◌, ◌==◌, not, Bool, true, false, List, [], ◌∷◌, length, map, take, drop, get_or, set, replicate, slice_get, Option, Some, None, refl, sym, ap, ap₂, ◌∙◌, subst, arith}
use Rattle.std.specs.Prelude.{◌&&◌, ◌||◌, sum}
use Rattle.std.specs.List.{list_all, list_any, range_with_len, AllByRecursion}
use Rattle.std.proofs.lemmas.Bool.{cases_eq, eq-eqb, ne_eqb}
use Rattle.std.proofs.lemmas.List.Folds.{list_any_more, list_any-append}
use Rattle.std.proofs.lemmas.Option.{none-some}
use Rattle.std.proofs.lemmas.List.{get_or-map, get_or-set_same, get_or-set_other, length-map, length-set, take_all, take-append-drop}
use Rattle.std.proofs.lemmas.List.FromFn.{fill_by_all, length-map-range_with_len, get_or-map-range_with_len}
use Rattle.std.proofs.lemmas.List.Sums.{sum_by-cons}
use Rattle.col_common.specs.declared.row.RowAddr.{RowAddr}
use Rattle.col_model.proofs.SeenLaws.{or-false}
use Rattle.col_model.proofs.StackSeen.{any-map, any-picked}
use Rattle.col_model.specs.Index.{Shape, empty_shape, full_shape, optional_shape, multivalued_shape}
use Rattle.col_model.specs.Order.{all_rows, has_row}
use Rattle.col_model.specs.Positions.{count_in}
use Rattle.col_order.proofs.MarkedLemmas.{row_there}
use Rattle.col_order.specs.Orders.{address_of, counts_of, picks_of}
use Rattle.col_order.specs.RowOrders.{order_of}
use Rattle.col_order.specs.declared.merge_row_order.MergeRowOrder.{MergeRowOrder}
use Rattle.col_order.specs.declared.merge_row_order.MergeRowOrder.TheVariants.{Stack}
use Rattle.col_column.specs.Columns.{row_count, IsCounted}
use Rattle.col_dynamic.specs.Dynamic.{dynamic_shape, value_count}
use Rattle.col_dynamic.specs.declared.dynamic_column.DynamicColumn.{DynamicColumn}
use Rattle.col_merge_slot.specs.Kept.{has_value, has_values, keeps, kept_flags, AreSet, IsCountedIn}
use Rattle.col_merge_slot.specs.Segments.{HaveRows}

-- ---- rows that are named one by one

-- nothing was found yet
pub none-found : (a n : ℕ) → replicate n false ≡ map (λ (k : ℕ). false) (range_with_len a n)
none-found a zero = refl
none-found a (suc n) = ap (λ fs. false ∷ fs) (none-found (a + 1) n)

-- the segment that an address names is there
pub named-there : (counts : List ℕ) (addrs : List RowAddr) (addresses : List (ℕ × ℕ)) (i n : ℕ) (d : RowAddr)
    → map address_of addrs ≡ addresses → list_all (has_row counts) addresses ≡ true → i < length addrs
    → n ≡ length counts → (get_or addrs i d).segment_ord < n
named-there counts addrs addresses i n d same all h long =
    let there = row_there counts addrs i d (ap (list_all (has_row counts)) same ∙ all) h in
    omega (arith, there.0)

-- the flags after one row more
module _ (columns : List (Option DynamicColumn)) (ps : List (ℕ × ℕ)) (i n : ℕ) (p : ℕ × ℕ) (flags : List Bool)
    (found : Bool) (h : i < length ps) (at : get_or ps i p ≡ p) (there : p.0 < n)
    (before : flags ≡ map (keeps columns (take i ps)) (range_with_len 0 n))
    (found_is : found ≡ has_value (get_or columns p.0 None) p.1) where
  after : List Bool
  after = set flags p.0 (get_or flags p.0 false || found)

  long : length flags ≡ n
  long = ap length before ∙ length-map-range_with_len (keeps columns (take i ps)) 0 n

  flag-at : (k : ℕ) → k < n → get_or flags k false ≡ keeps columns (take i ps) k
  flag-at k lt = ap (λ fs. get_or fs k false) before ∙ get_or-map-range_with_len (keeps columns (take i ps)) 0 n k k false lt (omega arith)

  more : (k : ℕ) → keeps columns (take (i + 1) ps) k
      ≡ (keeps columns (take i ps) k || ((p.0 == k) && has_value (get_or columns k None) p.1))
  more k =
      list_any_more (λ q. (q.0 == k) && has_value (get_or columns k None) q.1) ps i p h
      ∙ ap (λ (q : ℕ × ℕ). keeps columns (take i ps) k || ((q.0 == k) && has_value (get_or columns k None) q.1)) at

  flag-after : (k : ℕ) → k < n → (p.0 ≡ k) ⊎ (p.0 ≡ k → ⊥) → get_or after k false ≡ keeps columns (take (i + 1) ps) k
  unfolding after
  flag-after k lt (inl same) =
      ap (λ j. get_or (set flags p.0 (get_or flags p.0 false || found)) j false) (sym same)
      ∙ get_or-set_same flags p.0 (get_or flags p.0 false || found) false (omega (arith, long, there))
      ∙ ap₂ (λ a b. a || b) (flag-at p.0 there) found_is
      ∙ ap (λ b. keeps columns (take i ps) p.0 || (b && has_value (get_or columns p.0 None) p.1)) (sym (eq-eqb p.0 p.0 refl))
      ∙ sym (more p.0)
      ∙ ap (keeps columns (take (i + 1) ps)) same
  flag-after k lt (inr other) =
      get_or-set_other flags p.0 k (get_or flags p.0 false || found) false (λ e. other (sym e))
      ∙ flag-at k lt
      ∙ sym (or-false (keeps columns (take i ps) k))
      ∙ ap (λ b. keeps columns (take i ps) k || (b && has_value (get_or columns k None) p.1)) (sym (ne_eqb p.0 k other))
      ∙ sym (more k)

  pub found-more : set flags p.0 (get_or flags p.0 false || found) ≡ map (keeps columns (take (i + 1) ps)) (range_with_len 0 n)
  unfolding after
  found-more =
      fill_by_all (keeps columns (take (i + 1) ps)) after n false
      (length-set flags p.0 (get_or flags p.0 false || found) ∙ long) (λ k lt. flag-after k lt (cases_eq p.0 k))

-- a set flag stays set
set-kept : (flags : List Bool) (n j : ℕ) (found : Bool) → j < length flags → AreSet flags n
    → AreSet (set flags j (get_or flags j false || found)) n
set-kept flags n j found there are k h = by-place (cases_eq j k)
  where
    by-place : (j ≡ k) ⊎ (j ≡ k → ⊥) → get_or (set flags j (get_or flags j false || found)) k false ≡ true
    by-place (inl same) =
        ap (λ i. get_or (set flags j (get_or flags j false || found)) i false) (sym same)
        ∙ get_or-set_same flags j (get_or flags j false || found) false there
        ∙ ap (λ i. get_or flags i false || found) same
        ∙ ap (λ b. b || found) (are k h)
    by-place (inr other) =
        get_or-set_other flags j k (get_or flags j false || found) false (λ e. other (sym e)) ∙ are k h

-- the same of flags after one row more
pub set-noted : (flags new : List Bool) (n j : ℕ) (found : Bool) → new ≡ set flags j (get_or flags j false || found)
    → j < length flags → AreSet flags n → AreSet new n
set-noted flags new n j found e there are = subst (λ fs. AreSet fs n) (sym e) (set-kept flags n j found there are)

-- which are as many
pub long-noted : (flags new : List Bool) (n j : ℕ) (b : Bool) → new ≡ set flags j b → n ≤ length flags → n ≤ length new
long-noted flags new n j b e h = omega (arith, h, ap length e, length-set flags j b)

-- one flag more that is set
pub set-more : (flags : List Bool) (n : ℕ) → AreSet flags n → get_or flags n false ≡ true → AreSet flags (n + 1)
set-more flags n are more k h = by-place (cases_eq k n)
  where
    by-place : (k ≡ n) ⊎ (k ≡ n → ⊥) → get_or flags k false ≡ true
    by-place (inl same) = ap (λ i. get_or flags i false) same ∙ more
    by-place (inr other) = are k (omega (arith, h, other))

-- what some of the first items pass, some item passes
any-front : {X : Type 0} (test : X → Bool) (xs : List X) (i : ℕ) → list_any test (take i xs) ≡ true → list_any test xs ≡ true
any-front test xs i h =
    ap (list_any test) (sym (take-append-drop i xs))
    ∙ list_any-append test (take i xs) (drop i xs)
    ∙ ap (λ b. b || list_any test (drop i xs)) h

-- ---- all rows of a stack

-- some count isn't 0 exactly where their sum isn't
some-sum : (cs : List ℕ) → list_any (λ c. not (c == 0)) cs ≡ not (sum cs == 0)
some-sum [] = refl
some-sum (zero ∷ cs) = some-sum cs ∙ ap (λ n. not (n == 0)) (omega (arith, sum_by-cons (λ x. x) 0 cs))
some-sum (suc c ∷ cs) =
    ap (λ b. not b || list_any (λ d. not (d == 0)) cs) (ne_eqb (suc c) 0 (λ e. omega (arith, e)))
    ∙ ap not (sym (ne_eqb (sum (suc c ∷ cs)) 0 (λ e. omega (arith, e, sum_by-cons (λ x. x) (suc c) cs))))

-- the same of counts that are read one by one
some-read : (cs : List ℕ) (n m : ℕ) → length cs ≡ n → sum cs ≡ m
    → list_any (λ row. not (get_or cs row 0 == 0)) (range_with_len 0 n) ≡ not (m == 0)
some-read cs n m long all =
    any-map (λ row. get_or cs row 0) (λ c. not (c == 0)) (range_with_len 0 n)
    ∙ ap (list_any (λ c. not (c == 0))) (sym (fill_by_all (λ row. get_or cs row 0) cs n 0 long (λ k h. refl)))
    ∙ some-sum cs
    ∙ ap (λ k. not (k == 0)) all

-- a test that no item passes, or each
any-none : (rs : List ℕ) → list_any (λ r. false) rs ≡ false
any-none [] = refl
any-none (r ∷ rs) = any-none rs

any-each : (a n : ℕ) → list_any (λ r. true) (range_with_len a n) ≡ not (n == 0)
any-each a zero = refl
any-each a (suc n) = ap not (sym (ne_eqb (suc n) 0 (λ e. omega (arith, e))))

-- some row of a shape has a value exactly where there are values
some-counted : (n m : ℕ) (s : Shape) → row_count s m ≡ n → IsCounted s m
    → list_any (λ row. not (count_in s row == 0)) (range_with_len 0 n) ≡ not (m == 0)
some-counted n m (empty_shape k) rows counted = any-none (range_with_len 0 n) ∙ ap (λ m. not (m == 0)) (sym counted)
some-counted n m full_shape rows counted = any-each 0 n ∙ ap (λ k. not (k == 0)) (sym rows)
some-counted n m (optional_shape cs) rows counted = some-read cs n m rows counted
some-counted n m (multivalued_shape cs) rows counted = some-read cs n m rows counted

-- a segment's column has a value in some row exactly where it has values
some-row : (n : ℕ) (o : Option DynamicColumn)
    → ((c : DynamicColumn) → o ≡ Some c → row_count (dynamic_shape c) (value_count c) ≡ n) → IsCountedIn o
    → list_any (has_value o) (range_with_len 0 n) ≡ has_values o
some-row n None rows counted = any-none (range_with_len 0 n)
some-row n (Some c) rows counted = some-counted n (value_count c) (dynamic_shape c) (rows c refl) counted

-- an item of a list, and the column of a place
slice-at : (counts : List ℕ) (k : ℕ) → k < length counts → slice_get counts k ≡ Some (get_or counts k 0)
slice-at [] k h = absurd (omega arith)
slice-at (n ∷ counts) zero h = refl
slice-at (n ∷ counts) (suc k) h = slice-at counts k (omega arith)

-- a column that is read at a place stands there
pub column-at : (columns : List (Option DynamicColumn)) (k : ℕ) (c : DynamicColumn) → get_or columns k None ≡ Some c
    → slice_get columns k ≡ Some (Some c)
column-at [] zero c e = absurd (none-some c e)
column-at [] (suc k) c e = absurd (none-some c e)
column-at (o ∷ columns) zero c e = ap Some e
column-at (o ∷ columns) (suc k) c e = column-at columns k c e

-- what holds of each segment's column
pub counted-at : (columns : List (Option DynamicColumn)) (k : ℕ) → AllByRecursion IsCountedIn columns → IsCountedIn (get_or columns k None)
counted-at [] zero all = tt
counted-at [] (suc k) all = tt
counted-at (o ∷ columns) zero all = all.0
counted-at (o ∷ columns) (suc k) all = counted-at columns k all.1

-- in a stack a segment keeps a column that has values
pub stack-keeps : (counts : List ℕ) (columns : List (Option DynamicColumn)) → HaveRows counts columns
    → AllByRecursion IsCountedIn columns → map has_values columns ≡ kept_flags columns (all_rows counts)
stack-keeps counts columns have counted =
    fill_by_all (keeps columns (all_rows counts)) (map has_values columns) (length columns) false (length-map columns has_values) each
  where
    each : (k : ℕ) → k < length columns → get_or (map has_values columns) k false ≡ keeps columns (all_rows counts) k
    each k h =
        let o = get_or columns k None in
        get_or-map has_values columns k None false h
        ∙ sym (some-row (get_or counts k 0) o (λ c e. have.rows k c (column-at columns k c e)) (counted-at columns k counted))
        ∙ sym (any-picked counts 0 k k (get_or counts k 0) (has_value o) (omega arith)
        (slice-at counts k (omega (arith, have.segments, h))))

-- the same of an order
pub stacked-keeps : (order : MergeRowOrder) (counts : List ℕ) (columns : List (Option DynamicColumn))
    → order ≡ Stack counts → HaveRows (counts_of (order_of order)) columns → AllByRecursion IsCountedIn columns
    → map has_values columns ≡ kept_flags columns (picks_of (order_of order))
stacked-keeps order counts columns e have counted =
    stack-keeps counts columns (subst (λ o. HaveRows (counts_of (order_of o)) columns) e have) counted
    ∙ ap (λ o. kept_flags columns (picks_of (order_of o))) (sym e)

-- ---- a walk of addresses

-- the flags after one address more
pub walked : (columns : List (Option DynamicColumn)) (addrs : List RowAddr) (addresses : List (ℕ × ℕ))
    (counts : List ℕ) (i : ℕ) (d : RowAddr) (flags new : List Bool) (found : Bool)
    → map address_of addrs ≡ addresses → list_all (has_row counts) addresses ≡ true → i < length addrs
    → length columns ≡ length counts
    → flags ≡ map (keeps columns (take i addresses)) (range_with_len 0 (length columns))
    → found ≡ has_value (get_or columns (get_or addrs i d).segment_ord None) (get_or addrs i d).row_id
    → new ≡ set flags (get_or addrs i d).segment_ord (get_or flags (get_or addrs i d).segment_ord false || found)
    → new ≡ map (keeps columns (take (i + 1) addresses)) (range_with_len 0 (length columns))
walked columns addrs addresses counts i d flags new found same all h long before found_is new_is =
    let p : ℕ × ℕ = address_of (get_or addrs i d) in
    let within : i < length addresses = omega (arith, h, length-map addrs address_of, ap length same) in
    let at : get_or addresses i p ≡ p = ap (λ ps. get_or ps i p) (sym same) ∙ get_or-map address_of addrs i d p h in
    let there : p.0 < length columns = named-there counts addrs addresses i (length columns) d same all h long in
    new_is ∙ found-more columns addresses i (length columns) p flags found within at there before found_is

-- the flags after all of them
pub all-walked : (columns : List (Option DynamicColumn)) (addrs : List RowAddr) (addresses : List (ℕ × ℕ)) (i : ℕ)
    (flags : List Bool) → map address_of addrs ≡ addresses → length addrs ≤ i
    → flags ≡ map (keeps columns (take i addresses)) (range_with_len 0 (length columns))
    → flags ≡ kept_flags columns addresses
all-walked columns addrs addresses i flags same h before =
    before ∙ ap (λ ps. kept_flags columns ps) (take_all i addresses (omega (arith, h, length-map addrs address_of, ap length same)))

-- flags that are all set before the last address are those after it
pub all-set : (columns : List (Option DynamicColumn)) (addresses : List (ℕ × ℕ)) (i : ℕ) (flags : List Bool)
    → AreSet flags (length flags)
    → flags ≡ map (keeps columns (take i addresses)) (range_with_len 0 (length columns))
    → flags ≡ kept_flags columns addresses
all-set columns addresses i flags are before = fill_by_all (keeps columns addresses) flags (length columns) false long each
  where
    long : length flags ≡ length columns
    long = ap length before ∙ length-map-range_with_len (keeps columns (take i addresses)) 0 (length columns)

    each : (k : ℕ) → k < length columns → get_or flags k false ≡ keeps columns addresses k
    each k h =
        let flag = are k (omega (arith, h, long)) in
        let at = ap (λ fs. get_or fs k false) before
        ∙ get_or-map-range_with_len (keeps columns (take i addresses)) 0 (length columns) k k false h
        (omega arith) in
        flag ∙ sym (any-front (λ q. (q.0 == k) && has_value (get_or columns k None) q.1) addresses i (sym at ∙ flag))
