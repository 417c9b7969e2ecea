-- Lists of start offsets, from anywhere.
use Rattle.std.specs.Prelude.{ℕ, ◌≤◌, List, drop, length}
use Rattle.col_common.specs.declared.iterable.Walk.{Walk}
use Rattle.col_model.specs.Positions.{starts_of}
use Rattle.col_index.specs.MultiValues.{value_counts_of}
use Rattle.col_indexer.specs.Stacks.{stacked_counts, IsWalkOfStarts, StandsAtOffset, stacked_offsets_to_give}
use Rattle.col_indexer.specs.Shuffles.{shuffled_counts, StandsAtSum, sums_to_give}
use Rattle.col_indexer.specs.declared.start_offsets.StartOffsets.{StartOffsets}
use Rattle.col_indexer.specs.declared.start_offsets.StartOffsets.TheVariants.{Slice, Index, Stacked, Shuffled}

-- the offsets
abbrev pub start_offsets_of : StartOffsets → List ℕ
start_offsets_of (Slice s) = s.now
start_offsets_of (Index i) = starts_of (value_counts_of i.now)
start_offsets_of (Stacked s) = starts_of (stacked_counts s)
start_offsets_of (Shuffled p) = starts_of (shuffled_counts p)

-- a walk of them
abbrev pub OffsetsStand : StartOffsets → Walk → Type 0
OffsetsStand (Slice s) w = w.place ≤ length s.now
OffsetsStand (Index i) w = IsWalkOfStarts (value_counts_of i.now) w
OffsetsStand (Stacked s) w = StandsAtOffset s w
OffsetsStand (Shuffled p) w = StandsAtSum p w

-- those that it has still to give
abbrev pub offsets_to_give : StartOffsets → Walk → List ℕ
offsets_to_give (Slice s) w = drop w.place s.now
offsets_to_give (Index i) w = drop w.place (starts_of (value_counts_of i.now))
offsets_to_give (Stacked s) w = stacked_offsets_to_give s w
offsets_to_give (Shuffled p) w = sums_to_give p w
