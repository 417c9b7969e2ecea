use Rattle.std.proofs.Common.{◌<◌, ◌^◌, length, map, sum, sym, subst}
use Rattle.col_index.specs.Indexes.{shape_of}
use Rattle.col_model.specs.Positions.{picked_counts}
use Rattle.col_order.specs.Orders.{picks_of}
use Rattle.col_order.specs.RowOrders.{order_of}
use Rattle.col_merge_values.specs.Merges.{values_of}
use Rattle.col_merge_values.proofs.PickedLemmas.{counted-few}
use Rattle.col_merge_values.proofs.merged_column_values.MergedColumnValues.picked.Goals as goal

pub picked_column-requires-clause-few : goal.picked_column-requires-clause-few
picked_column-requires-clause-few g c =
    let few = subst (λ m. length (values_of m) < 2 ^ 32) (sym c.self.view_is) c.requires in
    subst (λ o. sum (picked_counts (map shape_of c.self.inside.columns.column_indexes.now) (picks_of (order_of o)))
    < 2 ^ 32) c.in-Shuffled.is (counted-few _ c.self.invariant c.orders_are_picks.ensures few)
