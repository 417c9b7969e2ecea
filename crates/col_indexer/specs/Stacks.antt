-- Rows and offsets of indexes one behind another. A walk stands in a segment, at a place among its
-- rows with a value; its sum is how many rows, or values, stand before the segment.
use Rattle.std.specs.Prelude.{◌≡◌, ℕ, ◌-◌, ◌≤◌, ◌<◌, ◌^◌, List, map, take, drop, length, sum, slice_index, slice_index_or}
use Rattle.col_common.specs.declared.iterable.Walk.{Walk}
use Rattle.col_model.specs.Index.{Shape, empty_shape}
use Rattle.col_model.specs.Order.{all_rows}
use Rattle.col_model.specs.Positions.{start_of, picked_counts, rows_with_value, starts_of, starts_after}
use Rattle.col_index.specs.declared.column_index.ColumnIndex.{ColumnIndex}
use Rattle.col_index.specs.Indexes.{shape_of}
use Rattle.col_index.specs.Walked.{IsHint32, IsRanked32}
use Rattle.col_indexer.specs.Counted.{counts_in, rows_behind}
use Rattle.col_indexer.specs.Merged.{FitSegments}

-- the shapes of segments, and their row counts
pub record Segments : Type 0 where
  pub shapes : List Shape
  pub counts : List ℕ

-- indexes of an order's segments
abbrev pub index_segments : List ColumnIndex → List ℕ → Segments
index_segments indexes counts = record { shapes = map shape_of indexes; counts = counts }

-- the counts of all rows
abbrev pub stacked_counts : Segments → List ℕ
stacked_counts s = picked_counts s.shapes (all_rows s.counts)

-- the counts of a segment's rows
abbrev pub segment_counts : Segments → ℕ → List ℕ
segment_counts s k =
    counts_in (slice_index s.counts k) (slice_index_or s.shapes k (empty_shape 0))

-- the counts of the rows of the segments from one on
abbrev pub counts_from : Segments → ℕ → List ℕ
counts_from s k = drop (start_of s.counts k) (stacked_counts s)

-- how many values the segments before one have
abbrev pub values_before : Segments → ℕ → ℕ
values_before s k = sum (take (start_of s.counts k) (stacked_counts s))

-- each shape is of its segment's rows; rows and values are counted by 32 bits
pub record AreSegments (s : Segments) : Type 0 where
  pub fit : FitSegments s.counts s.shapes
  pub few_rows : sum s.counts < 2 ^ 32
  pub few_values : sum (stacked_counts s) < 2 ^ 32

-- a walk of rows: behind the last segment its place is 0
pub record StandsAtRow (s : Segments) (w : Walk) : Type 0 where
  pub segment : w.segment ≤ length s.counts
  pub row : IsRanked32 (rows_with_value (segment_counts s w.segment)) w.inner w.place
  pub before : w.sum ≡ start_of s.counts w.segment

-- the rows that it has still to give
abbrev pub stacked_rows_to_give : Segments → Walk → List ℕ
stacked_rows_to_give s w = drop w.place (rows_behind w.sum (counts_from s w.segment))

-- A walk of the start offsets of rows with these counts, at one of them or behind the last. The
-- first offset is 0, and behind it each row with a value has the one where its values end. `inner`
-- is a number from which on the next of these rows can be looked for, or 0, which tells nothing.
pub record IsWalkOfStarts (counts : List ℕ) (w : Walk) : Type 0 where
  pub hint : IsHint32 (rows_with_value counts) w.inner (w.place - 1)
  pub within : w.place ≤ length (starts_of counts)

-- A walk of offsets: its place is among the start offsets of the segment. The first of a segment is
-- given once, at the front, so that behind the last segment the place is 0 or 1.
pub record StandsAtOffset (s : Segments) (w : Walk) : Type 0 where
  pub segment : w.segment ≤ length s.counts
  pub start : IsWalkOfStarts (segment_counts s w.segment) w
  pub before : w.sum ≡ values_before s w.segment

-- the offsets that it has still to give
abbrev pub stacked_offsets_to_give : Segments → Walk → List ℕ
stacked_offsets_to_give s w = drop w.place (starts_after w.sum (counts_from s w.segment))
