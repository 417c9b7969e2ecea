-- Values of rows that an order picks from the columns of segments.
use Rattle.std.specs.Prelude.{◌≡◌, ℕ, ◌≤◌, ◌<◌, ◌^◌, nat_lt, Bool, false, List, [], ◌++◌, map, drop, length, slice_index, slice_index_or, slice_range}
use Rattle.col_common.specs.declared.iterable.Walk.{Walk}
use Rattle.col_model.specs.Index.{Shape, empty_shape}
use Rattle.col_model.specs.Order.{Order, stack, shuffle}
use Rattle.col_model.specs.U64List.{joined_lists}
use Rattle.col_order.specs.Orders.{counts_of, picks_of}
use Rattle.col_column.specs.Columns.{row_count, IsCounted, rows_by, row_at}

-- the shapes of segments' columns, and their values
pub record SegmentColumns (T : Type 0) : Type 0 where
  pub shapes : List Shape
  pub lists : List (List T)

abbrev pub columns_by : {T : Type 0} → List Shape → List (List T) → SegmentColumns T
columns_by shapes lists = record { shapes = shapes; lists = lists }

-- the shape of a segment
abbrev pub segment_shape : {T : Type 0} → SegmentColumns T → ℕ → Shape
segment_shape c k = slice_index_or c.shapes k (empty_shape 0)

-- the values of a segment
abbrev pub segment_values : {T : Type 0} → SegmentColumns T → ℕ → List T
segment_values c k = slice_index_or c.lists k []

-- so many rows, and exactly the values that their shape counts
pub record FitsShape {T : Type 0} (n : ℕ) (s : Shape) (xs : List T) : Type 0 where
  pub rows : row_count s (length xs) ≡ n
  pub counted : IsCounted s (length xs)

-- a column for each segment, of the segment's rows
pub record AreColumns {T : Type 0} (counts : List ℕ) (c : SegmentColumns T) : Type 0 where
  pub shapes : length c.shapes ≡ length counts
  pub lists : length c.lists ≡ length counts
  pub each : (k : ℕ) → k < length counts
      → FitsShape (slice_index counts k) (segment_shape c k) (segment_values c k)

-- ---- the values of picked rows

-- the values of the row that a pick names
abbrev pub picked_row : {T : Type 0} → SegmentColumns T → ℕ × ℕ → List T
picked_row c p = row_at (rows_by (segment_shape c p.0) (segment_values c p.0)) p.1

-- those of each pick
abbrev pub merged_rows : {T : Type 0} → SegmentColumns T → List (ℕ × ℕ) → List (List T)
merged_rows c picks = map (picked_row c) picks

-- the same, one behind another
unfoldable pub merged_values : {T : Type 0} → SegmentColumns T → List (ℕ × ℕ) → List T
merged_values c picks = joined_lists (merged_rows c picks)

-- columns, and an order over their segments
pub record Merge (T : Type 0) : Type 0 where
  pub columns : SegmentColumns T
  pub order : Order

abbrev pub merge_of : {T : Type 0} → SegmentColumns T → Order → Merge T
merge_of c order = record { columns = c; order = order }

-- a column for each segment of the order
abbrev pub IsMerge : {T : Type 0} → Merge T → Type 0
IsMerge m = AreColumns (counts_of m.order) m.columns

-- the values of the rows that the order picks
abbrev pub values_of : {T : Type 0} → Merge T → List T
values_of m = merged_values m.columns (picks_of m.order)

-- ---- a walk of them: it stands in a run of values that stand together in a segment

-- the runs: in a stack all values of each segment, in a shuffle those of each picked row
abbrev pub runs_by : {T : Type 0} → SegmentColumns T → Order → List (List T)
runs_by c (stack counts) = c.lists
runs_by c (shuffle counts addresses) = merged_rows c addresses

-- The walk has begun `place` runs; of the last, which lies in `segment`, the positions from `inner`
-- up to `sum` are left.
pub record StandsInRun {T : Type 0} (c : SegmentColumns T) (w : Walk) : Type 0 where
  pub run : w.inner ≤ w.sum
  pub within : w.sum ≤ length (segment_values c w.segment)
  pub few : w.sum < 2 ^ 32

-- the values that are left of the run
abbrev pub left_of_run : {T : Type 0} → SegmentColumns T → Walk → List T
left_of_run c w = slice_range (segment_values c w.segment) w.inner w.sum

-- those, and the runs behind it
abbrev pub values_to_give : {T : Type 0} → Merge T → Walk → List T
values_to_give m w =
    left_of_run m.columns w ++ joined_lists (drop w.place (runs_by m.columns m.order))

-- A walk moves to a run of which a value is left, over runs without one; where there is none,
-- nothing is left at all.
pub record Finds {T : Type 0} (m : Merge T) (before after : Walk) (found : Bool) : Type 0 where
  pub stands : StandsInRun m.columns after
  pub same : values_to_give m after ≡ values_to_give m before
  pub found_is : found ≡ nat_lt after.inner after.sum
  pub none : found ≡ false → values_to_give m after ≡ []
