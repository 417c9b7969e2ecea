use Rattle.std.proofs.Common.{map}
use Rattle.col_column.specs.IpValues.{ip_values_of}
use Rattle.col_index.specs.Indexes.{shape_of}
use Rattle.col_indexer.specs.Written.{index_of}
use Rattle.col_model.specs.ColumnType as types
use Rattle.col_order.specs.Orders.{counts_of}
use Rattle.col_order.specs.RowOrders.{order_of}
use Rattle.col_types.specs.Cells.{unsigned_cell}
use Rattle.col_merge_values.proofs.ColumnListLemmas.{columns-fit}
use Rattle.col_merge_column.proofs.JoinLemmas.{joins-refused, large-none, counted-seen, addresses-seen}
use Rattle.col_merge_column.proofs.addresses.join_addresses.Goals as goal
use Rattle.col_merge_column.specs.Joins.{address_merge}

pub index_within_limits-requires : goal.index_within_limits-requires
index_within_limits-requires g c =
    columns-fit (counts_of (order_of c.args.merge_row_order.now)) (map shape_of c.args.column_indexes.now)
    (map ip_values_of c.args.column_values.now) c.requires

pub returns-in_default : goal.returns-in_default
returns-in_default g c =
    let m = address_merge c.args.column_indexes.now c.args.column_values.now c.args.merge_row_order.now in
    joins-refused _ types.ip _ _ (large-none types.ip unsigned_cell m c.requires c.orders_are_picks.ensures c.in_default.ensures.some)

pub serialize_collected_u128-requires-clause-counted : goal.serialize_collected_u128-requires-clause-counted
serialize_collected_u128-requires-clause-counted g c =
    let m = address_merge c.args.column_indexes.now c.args.column_values.now c.args.merge_row_order.now in
    (counted-seen c.new-values.result m (index_of c.in-Some.index) c.new-values.ensures c.requires
    c.orders_are_picks.ensures c.in-Some.ensures.index).counted

pub returns : goal.returns
returns g c =
    let m = address_merge c.args.column_indexes.now c.args.column_values.now c.args.merge_row_order.now in
    addresses-seen c.new-values.result m (index_of c.in-Some.index) c.new-values.ensures c.requires
    c.orders_are_picks.ensures c.in-Some.ensures.index c.in-Some.ensures.some _ _ _
    c.serialize_collected_u128.ensures.ok c.serialize_collected_u128.ensures.too_large
