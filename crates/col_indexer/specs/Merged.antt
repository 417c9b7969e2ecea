-- Merged indexes. States docs/RULES.md, Merged tables.
use Rattle.std.specs.Prelude.{◌≡◌, ℕ, ◌<◌, ◌^◌, ◌==◌, Bool, true, List, map, length, fold, sum, Some}
use Rattle.std.specs.Cmp.Lexicographic.{pointwise}
use Rattle.col_model.specs.Index.{Counts, Shape, empty_shape, full_shape, optional_shape, multivalued_shape, counts_over}
use Rattle.col_model.specs.Merge.{greater_cardinality}
use Rattle.col_model.specs.Order.{Order, stack, shuffle}
use Rattle.col_model.specs.Positions.{picked_counts}
use Rattle.col_model.specs.Table.{Cardinality, full}
use Rattle.col_order.specs.Orders.{counts_of, picks_of}
use Rattle.col_index.specs.Offsets.{cardinality_in}
use Rattle.col_indexer.specs.Counted.{tightest_of}
use Rattle.col_indexer.specs.Spelling.{Index, index_shape}

-- the shape is one of so many rows
abbrev pub is_over : ℕ → Shape → Bool
is_over n (empty_shape m) = m == n
is_over n full_shape = true
is_over n (optional_shape cs) = length cs == n
is_over n (multivalued_shape cs) = length cs == n

-- one shape for each segment, of the segment's rows
abbrev pub FitSegments : List ℕ → List Shape → Type 0
FitSegments counts shapes = pointwise is_over counts shapes ≡ true

-- the same, and fewer than 2 ^ 32 values are picked
pub record FitOrder (order : Order) (shapes : List Shape) : Type 0 where
  pub segments : FitSegments (counts_of order) shapes
  pub few : sum (picked_counts shapes (picks_of order)) < 2 ^ 32

-- the greatest cardinality of segments
abbrev pub stacked_cardinality_of : List Shape → Cardinality
stacked_cardinality_of shapes = fold greater_cardinality full (map cardinality_in shapes)

-- The cardinality of a merged index: the greatest of the segments' in a stack, the tightest of the
-- picked rows in a shuffle.
abbrev pub merged_cardinality : Order → List Shape → Cardinality
merged_cardinality (stack counts) shapes = stacked_cardinality_of shapes
merged_cardinality (shuffle counts addresses) shapes = tightest_of (picked_counts shapes addresses)

-- the counts of the picked rows
abbrev pub merged_counts : Order → List Shape → Counts
merged_counts order shapes =
    let cs = picked_counts shapes (picks_of order) in
    record { cardinality = merged_cardinality order shapes; of_rows = cs }

-- an index counts the picked rows
abbrev pub IsMerged : Order → List Shape → Index → Type 0
IsMerged order shapes i =
    counts_over (length (picks_of order)) (index_shape i) ≡ Some (merged_counts order shapes)
