use Rattle.std.proofs.Common.{map, sym, subst}
use Rattle.col_column.specs.Written.{number_column_bytes, column_codecs}
use Rattle.col_index.specs.Indexes.{shape_of}
use Rattle.col_indexer.specs.Merged.{IsMerged}
use Rattle.col_indexer.specs.Spelling.{index_shape}
use Rattle.col_indexer.specs.Written.{index_of}
use Rattle.col_numbers.specs.NumValues.{num_values_of}
use Rattle.col_order.specs.Orders.{counts_of}
use Rattle.col_order.specs.RowOrders.{order_of}
use Rattle.col_merge_values.proofs.ColumnListLemmas.{columns-fit}
use Rattle.col_merge_values.specs.Merges.{values_of}
use Rattle.col_values.specs.Monotonic.{Passes}
use Rattle.col_merge_column.proofs.JoinLemmas.{joins-refused, large-none, counted-seen, numbers-joined, stands-seen, bytes-seen}
use Rattle.col_merge_column.proofs.NumberLemmas.{lists-told}
use Rattle.col_merge_column.proofs.numbers.join_numbers.Goals as goal
use Rattle.col_merge_column.specs.Joins.{number_merge}

pub index_within_limits-requires : goal.index_within_limits-requires
index_within_limits-requires g c =
    columns-fit (counts_of (order_of c.args.merge_row_order.now)) (map shape_of c.args.column_indexes.now)
    (map num_values_of c.args.column_values.now) c.requires.columns

pub returns-in_default : goal.returns-in_default
returns-in_default g c =
    let t = g.T.HasAssociatedColumnType in
    let m = number_merge c.args.column_indexes.now c.args.column_values.now c.args.merge_row_order.now in
    joins-refused _ t.kind _ _ (large-none t.kind t.cell m c.requires.columns c.orders_are_picks.ensures c.in_default.ensures.some)

pub serialize_merged_u64-requires-clause-merged : goal.serialize_merged_u64-requires-clause-merged
serialize_merged_u64-requires-clause-merged g c =
    subst (λ m. IsMerged m.order m.columns.shapes (index_of c.in-Some.index)) (sym c.new-values.ensures) c.in-Some.ensures.index.merged

pub serialize_merged_u64-requires-clause-counted : goal.serialize_merged_u64-requires-clause-counted
serialize_merged_u64-requires-clause-counted g c =
    let m = number_merge c.args.column_indexes.now c.args.column_values.now c.args.merge_row_order.now in
    (counted-seen c.new-values.result m (index_of c.in-Some.index) c.new-values.ensures c.requires.columns
    c.orders_are_picks.ensures c.in-Some.ensures.index).counted

pub serialize_merged_u64-requires-clause-few : goal.serialize_merged_u64-requires-clause-few
serialize_merged_u64-requires-clause-few g c =
    let m = number_merge c.args.column_indexes.now c.args.column_values.now c.args.merge_row_order.now in
    (counted-seen c.new-values.result m (index_of c.in-Some.index) c.new-values.ensures c.requires.columns
    c.orders_are_picks.ensures c.in-Some.ensures.index).few

pub returns : goal.returns
returns g c =
    let t = g.T.HasAssociatedColumnType in
    let u = g.T.MonotonicallyMappableToU64 in
    let laws = g.met.T.MonotonicallyMappableToU64.laws in
    let m = number_merge c.args.column_indexes.now c.args.column_values.now c.args.merge_row_order.now in
    let i = index_of c.in-Some.index in
    let told = lists-told (Passes u.in_type) c.args.column_values.now c.values_are_told.ensures in
    let call = c.serialize_merged_u64 in
    numbers-joined t.kind t.cell u.code u.value u.is_code u.in_type g.met.T.StoredAsU64.stored laws.image
    laws.undoes c.requires.codes m i c.requires.columns c.orders_are_picks.ensures c.in-Some.ensures.index
    c.in-Some.ensures.some told call.result _ _ (number_column_bytes column_codecs i (map u.code (values_of m)))
    (bytes-seen c.new-values.result m u.code call.result _ _ (number_column_bytes column_codecs i) c.new-values.ensures call.ensures.ok)
    (stands-seen c.new-values.result m u.code (index_shape i) call.result (number_column_bytes column_codecs i)
    c.new-values.ensures call.ensures.again)
