-- How many values the rows of an order have.
use Rattle.std.proofs.Common.{◌≡◌, ℕ, zero, suc, ◌+◌, ◌<◌, ◌≤◌, ◌^◌, true, false, List, [], ◌∷◌, length, map, take, get_or, refl, sym, ap, ◌∙◌, arith}
use Rattle.std.specs.List.{sum, range_with_len}
use Rattle.std.specs.Prelude.{nat_le}
use Rattle.std.specs.Cmp.Lexicographic.{pointwise}
use Rattle.std.proofs.lemmas.Bool.{and_parts, true≢false, eqb-true, le-leb, lt-leb}
use Rattle.std.proofs.lemmas.List.{get_or-map, length-map, take_all}
use Rattle.std.proofs.lemmas.List.Sums.{sum_by-cons, sum_by-append, sum_by_more, sum_by_more_le}
use Rattle.col_common.specs.declared.row.RowAddr.{RowAddr}
use Rattle.col_model.specs.Index.{Shape, empty_shape, full_shape, optional_shape, multivalued_shape}
use Rattle.col_model.specs.Order.{all_rows}
use Rattle.col_order.specs.Orders.{address_of}
use Rattle.col_model.specs.Positions.{picked_counts, count_in, start_in}
use Rattle.col_indexer.specs.Counted.{counts_in}
use Rattle.col_indexer.specs.Merged.{is_over, FitSegments}
use Rattle.col_indexer.proofs.SegmentLemmas.{joined, stacked-joined}

-- ---- the values of all rows of an index

zeros : (a n : ℕ) → sum (map (λ row. 0) (range_with_len a n)) ≡ 0
zeros a zero = refl
zeros a (suc n) = sum_by-cons (λ x. x) 0 (map (λ row. 0) (range_with_len (a + 1) n)) ∙ omega (arith, zeros (a + 1) n)

ones : (a n : ℕ) → sum (map (λ row. 1) (range_with_len a n)) ≡ n
ones a zero = refl
ones a (suc n) = sum_by-cons (λ x. x) 1 (map (λ row. 1) (range_with_len (a + 1) n)) ∙ ap (λ k. 1 + k) (ones (a + 1) n) ∙ omega arith

-- they end where the values of the row behind the last would start
pub start-total : (n : ℕ) (s : Shape) → is_over n s ≡ true → start_in s n ≡ sum (counts_in n s)
start-total n (empty_shape m) e = sym (zeros 0 n)
start-total n full_shape e = sym (ones 0 n)
start-total n (optional_shape cs) e = ap sum (take_all n cs (let h = eqb-true (length cs) n e in omega arith))
start-total n (multivalued_shape cs) e = ap sum (take_all n cs (let h = eqb-true (length cs) n e in omega arith))

-- ---- the values of all segments

-- how many values each segment has
abbrev pub totals : List ℕ → List Shape → List ℕ
totals [] ss = []
totals (n ∷ ns) [] = []
totals (n ∷ ns) (s ∷ ss) = sum (counts_in n s) ∷ totals ns ss

-- a segment's shape is one of its rows, and its total is that of the shape
pub record IsSegment (ns : List ℕ) (ss : List Shape) (k : ℕ) : Type 0 where
  pub there : k < length ss
  pub over : is_over (get_or ns k 0) (get_or ss k (empty_shape 0)) ≡ true
  pub within : k < length (totals ns ss)
  pub total : get_or (totals ns ss) k 0 ≡ sum (counts_in (get_or ns k 0) (get_or ss k (empty_shape 0)))

-- each segment has a shape of its rows, and a total of what this counts
pub segment-at : (ns : List ℕ) (ss : List Shape) (k : ℕ) → FitSegments ns ss → k < length ns → IsSegment ns ss k
segment-at [] ss k fit h = absurd (omega arith)
segment-at (n ∷ ns) [] k fit h = absurd (true≢false (sym fit))
segment-at (n ∷ ns) (s ∷ ss) zero fit h =
    record {
      there = omega arith;
      over = (and_parts (is_over n s) (pointwise is_over ns ss) fit).0;
      within = omega arith;
      total = refl;
    }
segment-at (n ∷ ns) (s ∷ ss) (suc k) fit h =
    let rest = segment-at ns ss k (and_parts (is_over n s) (pointwise is_over ns ss) fit).1 (omega arith) in
    record { there = omega (arith, rest.there); over = rest.over; within = omega (arith, rest.within); total = rest.total }

-- what is counted in a segment's rows is one of the totals
pub segment-counted : (ns : List ℕ) (ss : List Shape) (k n count : ℕ) → FitSegments ns ss → k < length ns
    → n ≡ get_or ns k 0 → count ≡ sum (counts_in n (get_or ss k (empty_shape 0)))
    → (k < length (totals ns ss)) × (count ≡ get_or (totals ns ss) k 0)
segment-counted ns ss k n count fit h rows is =
    let segment = segment-at ns ss k fit h in
    (segment.within, is ∙ ap (λ n. sum (counts_in n (get_or ss k (empty_shape 0)))) rows ∙ sym segment.total)

-- there is one total for each segment
pub length-totals : (ns : List ℕ) (ss : List Shape) → FitSegments ns ss → length (totals ns ss) ≡ length ns
length-totals [] ss fit = refl
length-totals (n ∷ ns) [] fit = absurd (true≢false (sym fit))
length-totals (n ∷ ns) (s ∷ ss) fit = ap suc (length-totals ns ss (and_parts (is_over n s) (pointwise is_over ns ss) fit).1)

-- the counts of all segments come to their totals
joined-total : (ns : List ℕ) (ss : List Shape) → sum (joined ns ss) ≡ sum (totals ns ss)
joined-total [] ss = refl
joined-total (n ∷ ns) [] = refl
joined-total (n ∷ ns) (s ∷ ss) =
    sum_by-append (λ x. x) (counts_in n s) (joined ns ss)
    ∙ ap (λ m. sum (counts_in n s) + m) (joined-total ns ss)
    ∙ sym (sum_by-cons (λ x. x) (sum (counts_in n s)) (totals ns ss))

-- all rows have as many values as their segments
pub stacked-total : (ns : List ℕ) (ss : List Shape) → FitSegments ns ss → sum (picked_counts ss (all_rows ns)) ≡ sum (totals ns ss)
stacked-total ns ss fit = ap sum (stacked-joined (record { counts = ns; shapes = ss }) fit) ∙ joined-total ns ss

-- ---- sums that 32 bits may not count

-- some items are too many, and so are all
pub too-many : (xs : List ℕ) (i a x b all : ℕ) → all ≡ sum xs → i < length xs → a ≡ sum (take i xs)
    → x ≡ get_or xs i 0 → b ≡ a + x → 2 ^ 32 ≤ b → true ≡ nat_le (2 ^ 32) all
too-many xs i a x b all e h before at more many =
    let least = sum_by_more_le (λ y. y) xs i 0 h in
    sym (le-leb (2 ^ 32) all (omega arith))

-- some items and one more
pub one-more : (xs : List ℕ) (i a x b : ℕ) → i < length xs → a ≡ sum (take i xs) → x ≡ get_or xs i 0 → b ≡ a + x → b ≡ sum (take (i + 1) xs)
one-more xs i a x b h before at more = omega (arith, sum_by_more (λ y. y) xs i 0 h)

-- all items are counted
pub counted : (xs : List ℕ) (i a all : ℕ) → all ≡ sum xs → length xs ≤ i → a ≡ sum (take i xs) → a < 2 ^ 32 → false ≡ nat_le (2 ^ 32) all
counted xs i a all e h whole few =
    let same : a ≡ all = whole ∙ ap sum (take_all i xs h) ∙ sym e in
    sym (lt-leb (2 ^ 32) all (omega arith))

-- ---- the values of rows that are named

-- as many counts as addresses
pub length-named : (shapes : List Shape) (addrs : List RowAddr) → length (picked_counts shapes (map address_of addrs)) ≡ length addrs
unfolding picked_counts
length-named shapes addrs =
    length-map (map address_of addrs) (λ a. count_in (get_or shapes a.0 (empty_shape 0)) a.1)
    ∙ length-map addrs address_of

-- the count of a pick is that of the row that its address names
pub count-named : (shapes : List Shape) (addrs : List RowAddr) (k : ℕ) (d : RowAddr) → k < length addrs
    → get_or (picked_counts shapes (map address_of addrs)) k 0
    ≡ count_in (get_or shapes (get_or addrs k d).segment_ord (empty_shape 0)) (get_or addrs k d).row_id
unfolding picked_counts
count-named shapes addrs k d h =
    let count : ℕ × ℕ → ℕ = λ a. count_in (get_or shapes a.0 (empty_shape 0)) a.1 in
    get_or-map count (map address_of addrs) k (address_of (get_or addrs k d)) 0 (omega (arith, length-map addrs address_of))
    ∙ ap count (get_or-map address_of addrs k d (address_of (get_or addrs k d)) h)

-- the same of addresses as an order has them
pub walked : (shapes : List Shape) (addrs : List RowAddr) (addresses : List (ℕ × ℕ)) (k n : ℕ) (d : RowAddr)
    → map address_of addrs ≡ addresses → k < length addrs
    → n ≡ count_in (get_or shapes (get_or addrs k d).segment_ord (empty_shape 0)) (get_or addrs k d).row_id
    → (k < length (picked_counts shapes addresses)) × (n ≡ get_or (picked_counts shapes addresses) k 0)
walked shapes addrs addresses k n d same h e = (
  omega (arith, length-named shapes addrs, ap (λ all. length (picked_counts shapes all)) same),
  e ∙ sym (count-named shapes addrs k d h) ∙ ap (λ all. get_or (picked_counts shapes all) k 0) same,
)

-- all of them were walked
pub all-walked : (shapes : List Shape) (addrs : List RowAddr) (addresses : List (ℕ × ℕ)) (k : ℕ)
    → map address_of addrs ≡ addresses → length addrs ≤ k → length (picked_counts shapes addresses) ≤ k
all-walked shapes addrs addresses k same h = omega (arith, length-named shapes addrs, ap (λ all. length (picked_counts shapes all)) same)
