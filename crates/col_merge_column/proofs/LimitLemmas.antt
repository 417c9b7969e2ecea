-- The limits of a column of picked rows.
use Rattle.std.proofs.Common.{◌≡◌, ℕ, ◌+◌, ◌^◌, ◌-◌, ◌==◌, not, Bool, true, false, cond, List, [], ◌∷◌, length, map, Some, Option, refl, sym, ap, ap₂, ◌∙◌, arith}
use Rattle.std.specs.Prelude.{nat_le, ◌&&◌, ◌||◌, sum, count_by, sum_by, unwrap_or}
use Rattle.std.proofs.lemmas.Bool.{eqb-true, leb-false}
use Rattle.std.proofs.lemmas.List.Sums.{sum_by-cons}
use Rattle.col_index.proofs.CountLaws.{offset_counts-rows}
use Rattle.col_index.specs.Offsets.{cardinality_in}
use Rattle.col_indexer.specs.Merged.{merged_cardinality, merged_counts, IsMerged}
use Rattle.col_indexer.proofs.CountedLemmas.{count-rows}
use Rattle.col_indexer.specs.Spelling.{Index, full_index, optional_index, multivalued_index, IsIndex, is_past_limit}
use Rattle.col_model.specs.ColumnType.{ColumnType}
use Rattle.col_model.specs.Index.{Counts, Shape, empty_shape, full_shape, optional_shape, multivalued_shape, counts_over, set_counts, offset_counts}
use Rattle.col_model.specs.Limits.{cell_count, is_multivalued, has_many_codes, is_too_large}
use Rattle.col_model.specs.Order.{Order}
use Rattle.col_model.specs.Table.{Cell}
use Rattle.col_model.specs.Table as tables
use Rattle.col_model.proofs.MergedSound.{chosen-is}
use Rattle.col_order.specs.Orders.{counts_of, picks_of}
use Rattle.col_merge_values.proofs.MergedRowLemmas.{picked-lengths, picks-there, only_if-true}
use Rattle.col_merge_values.specs.Laws.{IsOrdered}
use Rattle.col_merge_values.specs.Merges.{Merge, IsMerge, merged_rows}
use Rattle.col_model.proofs.CutLaws.{lengths-map}
use Rattle.col_merge_column.specs.Joins.{picked_content}
use Rattle.col_merge_column.specs.Limits.{counts_picked, is_past_limits, IsMergedWithin}

-- ---- counts of rows

-- how many items lists have, by how many each has
pub count-lengths : {A : Type 0} (xss : List (List A)) → sum_by length xss ≡ sum (map length xss)
count-lengths [] = refl
count-lengths (xs ∷ xss) =
    sum_by-cons length xs xss ∙ ap (λ n. length xs + n) (count-lengths xss)
    ∙ sym (sum_by-cons (λ x. x) (length xs) (map length xss))

-- how many of them have an item
pub count-some : {A : Type 0} (xss : List (List A))
    → count_by (λ xs. not (length xs == 0)) xss ≡ count_by (λ c. not (c == 0)) (map length xss)
count-some [] = refl
count-some (xs ∷ xss) =
    sum_by-cons (λ ys. cond (not (length ys == 0)) 1 0) xs xss
    ∙ ap (λ n. cond (not (length xs == 0)) 1 0 + n) (count-some xss)
    ∙ sym (sum_by-cons (λ c. cond (not (c == 0)) 1 0) (length xs) (map length xss))

-- ---- the counts of a merged index

-- a shape's counts have its cardinality
pub counts-are : (n : ℕ) (s : Shape) (counts : Counts) → counts_over n s ≡ Some counts → cardinality_in s ≡ counts.cardinality
counts-are n (empty_shape m) counts e =
    let same : m ≡ n = eqb-true m n (only_if-true (m == n) _ counts e) in
    ap (λ k. cond (k == 0) tables.full tables.optional) same ∙ ap (λ c. c.cardinality) (chosen-is (m == n) _ counts e)
counts-are n full_shape counts e = ap (λ (o : Option Counts). (unwrap_or o counts).cardinality) e
counts-are n (optional_shape cs) counts e = ap (λ c. c.cardinality) (chosen-is (length cs == n) _ counts e)
counts-are n (multivalued_shape cs) counts e = ap (λ c. c.cardinality) (chosen-is (length cs == n) _ counts e)

-- It is past the limit exactly where it is Multivalued and the counts have too many rows.
pub past-limit : (order : Order) (shapes : List Shape) (i : Index) → IsMerged order shapes i → IsIndex i
    → is_past_limit i ≡ (is_multivalued (merged_cardinality order shapes)
    && nat_le (2 ^ 32 - 1) (count_by (λ c. not (c == 0)) (counts_picked order shapes)))
past-limit order shapes full_index merged is =
    let card = counts-are (length (picks_of order)) full_shape (merged_counts order shapes) merged in
    ap (λ c. is_multivalued c && nat_le (2 ^ 32 - 1) (count_by (λ c. not (c == 0)) (counts_picked order shapes))) card
past-limit order shapes (optional_index s) merged is =
    let card = counts-are (length (picks_of order)) (optional_shape (set_counts s)) (merged_counts order shapes) merged in
    ap (λ c. is_multivalued c && nat_le (2 ^ 32 - 1) (count_by (λ c. not (c == 0)) (counts_picked order shapes))) card
past-limit order shapes (multivalued_index o) merged is =
    let card = counts-are (length (picks_of order)) (multivalued_shape (offset_counts o)) (merged_counts order shapes) merged in
    let own : offset_counts o ≡ counts_picked order shapes =
    ap (λ c. c.of_rows)
    (chosen-is (length (offset_counts o) == length (picks_of order)) _ (merged_counts order shapes) merged) in
    let many : length o.set.rows ≡ count_by (λ c. not (c == 0)) (counts_picked order shapes) =
    ap length (sym (offset_counts-rows o is.offsets)) ∙ count-rows (offset_counts o)
    ∙ ap (count_by (λ c. not (c == 0))) own in
    ap (λ n. nat_le (2 ^ 32 - 1) n) many
    ∙ ap (λ c. is_multivalued c && nat_le (2 ^ 32 - 1) (count_by (λ c. not (c == 0)) (counts_picked order shapes))) card

-- ---- the limits of a column

-- The column is too large exactly where its counts are past the limits, or its codes are too many.
pub too_large-is : {T : Type 0} (t : ColumnType) (cell : T → Cell) (m : Merge T) → IsMerge m → IsOrdered m
    → is_too_large t (picked_content cell m)
    ≡ (is_past_limits m.order m.columns.shapes || false || has_many_codes t (picked_content cell m).rows)
unfolding is_too_large
too_large-is {T = T} t cell m is ordered =
    let rows = merged_rows m.columns (picks_of m.order) in
    let all = picks-there m.order ordered in
    let lengths : map length (map (map cell) rows) ≡ counts_picked m.order m.columns.shapes =
    lengths-map cell rows ∙ picked-lengths m.columns (counts_of m.order) is (picks_of m.order) all in
    let cells : cell_count (map (map cell) rows) ≡ sum (counts_picked m.order m.columns.shapes) =
    count-lengths (map (map cell) rows) ∙ ap sum lengths in
    let some : count_by (λ row. not (length row == 0)) (map (map cell) rows) ≡ count_by (λ c. not (c == 0))
    (counts_picked m.order m.columns.shapes) = count-some (map (map cell) rows)
    ∙ ap (count_by (λ c. not (c == 0))) lengths in
    λ i. (nat_le (2 ^ 32) (cells i)
    || (is_multivalued (merged_cardinality m.order m.columns.shapes) && nat_le (2 ^ 32 - 1) (some i))
    || false || has_many_codes t (map (map cell) rows))

-- ---- a merged index within the limits

or-true : (a : Bool) → (a || true) ≡ true
or-true true = refl
or-true false = refl

-- it has more rows with a value than may be
pub past-rows : (order : Order) (shapes : List Shape) (i : Index) → IsMerged order shapes i → IsIndex i
    → is_past_limit i ≡ true → is_past_limits order shapes ≡ true
past-rows order shapes i merged is past =
    ap (λ b. nat_le (2 ^ 32) (sum (counts_picked order shapes)) || b) (sym (past-limit order shapes i merged is) ∙ past)
    ∙ or-true (nat_le (2 ^ 32) (sum (counts_picked order shapes)))

-- it is within both limits
pub within-limits : (order : Order) (shapes : List Shape) (i : Index) → IsMerged order shapes i → IsIndex i
    → nat_le (2 ^ 32) (sum (counts_picked order shapes)) ≡ false → is_past_limit i ≡ false
    → (is_past_limits order shapes ≡ false) × IsMergedWithin order shapes i
within-limits order shapes i merged is few within = (
  ap₂ (λ a b. a || b) few (sym (past-limit order shapes i merged is) ∙ within),
  record {
    merged = merged;
    index = is;
    limit = within;
    few = let h = leb-false (2 ^ 32) (sum (counts_picked order shapes)) few in omega arith;
  },
)
