-- Rows and offsets of rows that are picked one by one. A walk stands at a pick; its sum is how many
-- values stand before it.
use Rattle.std.specs.Prelude.{◌≡◌, ℕ, ◌≤◌, ◌<◌, ◌^◌, true, List, [], ◌∷◌, ◌++◌, drop, length, sum, take}
use Rattle.std.specs.List.{list_all}
use Rattle.col_common.specs.declared.iterable.Walk.{Walk}
use Rattle.col_model.specs.Index.{Shape}
use Rattle.col_model.specs.Order.{has_row}
use Rattle.col_model.specs.Positions.{picked_counts}
use Rattle.col_order.specs.Orders.{Shuffle}
use Rattle.col_indexer.specs.Counted.{rows_behind, ends_behind}
use Rattle.col_indexer.specs.Merged.{FitSegments}

-- the shapes of segments, and an order over them
pub record Picked : Type 0 where
  pub shapes : List Shape
  pub order : Shuffle

-- shapes of an order's segments
abbrev pub picked_of : List Shape → Shuffle → Picked
picked_of shapes order = record { shapes = shapes; order = order }

-- the counts of the picked rows
abbrev pub shuffled_counts : Picked → List ℕ
shuffled_counts p = picked_counts p.shapes p.order.addresses

-- each shape is of its segment's rows, each pick is one of them; 32 bits count rows and values
pub record ArePickable (p : Picked) : Type 0 where
  pub fit : FitSegments p.order.counts p.shapes
  pub named : list_all (has_row p.order.counts) p.order.addresses ≡ true
  pub few_rows : length p.order.addresses < 2 ^ 32
  pub few_values : sum (shuffled_counts p) < 2 ^ 32

-- a walk of rows
abbrev pub StandsAtPick : Picked → Walk → Type 0
StandsAtPick p w = w.place ≤ length p.order.addresses

-- the rows that it has still to give
abbrev pub picks_to_give : Picked → Walk → List ℕ
picks_to_give p w = rows_behind w.place (drop w.place (shuffled_counts p))

-- a walk of offsets, which has given the first 0 where `inner` is 1
pub record StandsAtSum (p : Picked) (w : Walk) : Type 0 where
  pub pick : w.place ≤ length p.order.addresses
  pub before : w.sum ≡ sum (take w.place (shuffled_counts p))
  pub first : w.inner ≤ 1

-- the offsets that it has still to give
abbrev pub sums_to_give : Picked → Walk → List ℕ
sums_to_give p w = drop w.inner (0 ∷ []) ++ ends_behind w.sum (drop w.place (shuffled_counts p))
