use Rattle.std.proofs.Common.{map, subst}
use Rattle.col_index.specs.Indexes.{shape_of}
use Rattle.col_indexer.specs.Written.{index_of}
use Rattle.col_order.specs.RowOrders.{order_of}
use Rattle.col_merge_column.specs.Limits.{IsMergedWithin}
use Rattle.col_merge_column.proofs.TextLemmas.{texts-fit, texts-unindexed, texts-joined}
use Rattle.col_merge_column.proofs.texts.join_behind.Goals as goal

pub index_within_limits-requires : goal.index_within_limits-requires
index_within_limits-requires g c =
    texts-fit c.args.bytes_columns.now (order_of c.args.merge_row_order.now)
    (map shape_of c.args.column_indexes.now) c.requires.segments c.requires.shapes

pub returns-in_default : goal.returns-in_default
returns-in_default g c t has =
    texts-unindexed c.args.bytes_columns.now (order_of c.args.merge_row_order.now) c.requires.segments
    c.requires.told c.orders_are_picks.ensures t has _ (map shape_of c.args.column_indexes.now)
    c.requires.shapes c.in_default.ensures.some

pub merge_bytes_or_str_column-requires-clause-few : goal.merge_bytes_or_str_column-requires-clause-few
merge_bytes_or_str_column-requires-clause-few g c =
    (subst (λ ss. IsMergedWithin (order_of c.args.merge_row_order.now) ss (index_of c.in-Some.index))
    c.requires.shapes c.in-Some.ensures.index).few

pub merge_bytes_or_str_column-requires-clause-merged : goal.merge_bytes_or_str_column-requires-clause-merged
merge_bytes_or_str_column-requires-clause-merged g c =
    (subst (λ ss. IsMergedWithin (order_of c.args.merge_row_order.now) ss (index_of c.in-Some.index))
    c.requires.shapes c.in-Some.ensures.index).merged

pub returns : goal.returns
returns g c t has =
    texts-joined c.args.bytes_columns.now (order_of c.args.merge_row_order.now) c.requires.segments c.requires.told
    c.orders_are_picks.ensures t has _ _ c.merge_bytes_or_str_column.result
    (map shape_of c.args.column_indexes.now) c.requires.shapes c.in-Some.ensures.some
    (c.merge_bytes_or_str_column.ensures t has)
