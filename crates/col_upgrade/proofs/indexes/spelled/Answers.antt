use Rattle.std.proofs.Common.{map}
use Rattle.col_index.specs.Indexes.{shape_of}
use Rattle.col_indexer.specs.Written.{index_of}
use Rattle.col_order.specs.RowOrders.{order_of}
use Rattle.col_upgrade.proofs.IndexLemmas.{alone-fits, alone-within, alone-again}
use Rattle.col_upgrade.proofs.indexes.spelled.Goals as goal

pub merge_column_index-index-requires : goal.merge_column_index-index-requires
merge_column_index-index-requires c =
    alone-fits c.args.num_rows (map shape_of c.args.column_indexes.now) c.requires (order_of c.in_ok-order.order)
    c.in_ok-order.ensures.ok

pub serialize_column_index-requires-clause-limit : goal.serialize_column_index-requires-clause-limit
serialize_column_index-requires-clause-limit c =
    alone-within c.args.num_rows (map shape_of c.args.column_indexes.now) c.requires (order_of c.in_ok-order.order)
    (index_of c.merge_column_index-index.result) c.in_ok-order.ensures.ok c.merge_column_index-index.ensures.counts
    c.merge_column_index-index.ensures.index

pub returns-clause-ok : goal.returns-clause-ok
returns-clause-ok c =
    alone-again c.args.num_rows (map shape_of c.args.column_indexes.now) c.requires (order_of c.in_ok-order.order)
    (index_of c.merge_column_index-index.result) c.new-made.result c.serialize_column_index.new.sink
    c.in_ok-serialize_column_index.field-0 c.new-made.ensures c.in_ok-order.ensures.ok
    c.merge_column_index-index.ensures.counts c.in_ok-serialize_column_index.ensures.again
    c.in_ok-serialize_column_index.ensures.ok
