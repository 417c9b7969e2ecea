use Rattle.std.proofs.Common.{◌<◌, ◌^◌, length, map, sym, ap, subst, ◌∙◌, arith}
use Rattle.col_model.specs.Index.{counts_over}
use Rattle.col_model.specs.Positions.{rows_with_value, starts_of}
use Rattle.col_index.specs.Indexes.{shape_of}
use Rattle.col_indexer.specs.Shuffles.{shuffled_counts, picked_of}
use Rattle.col_indexer.specs.Spelling.{IsIndex, index_shape}
use Rattle.col_indexer.proofs.MergeLemmas.{tightest-full, tightest-optional, index-counted, index-sound, index-by}
use Rattle.col_indexer.proofs.ShuffleLemmas.{length-shuffled}
use Rattle.col_indexer.proofs.merge.merge_column_index_shuffled.Goals as goal

pub returns-clause-counts : goal.returns-clause-counts
returns-clause-counts c =
    let order = c.args.shuffle_merge_order.now in
    let p = picked_of (map shape_of c.args.column_indexes.now) order in
    let cs = shuffled_counts p in
    let long = sym (length-shuffled p) in
    let same = index-by _ c.args.cardinality_after_merge cs c.num_rows-num_rows.result _ _ c.from_lists.ensures
    (c.num_rows-num_rows.ensures ∙ long) (ap (λ q. rows_with_value (shuffled_counts q)) c.new.ensures)
    (ap (λ q. starts_of (shuffled_counts q)) c.new-starts.ensures) in
    ap (λ i. counts_over (length order.addresses) (index_shape i)) same
    ∙ index-counted c.args.cardinality_after_merge cs _ _ c.requires.cardinality long (tightest-full cs) (tightest-optional cs)

pub returns-clause-index : goal.returns-clause-index
returns-clause-index c =
    let p = picked_of (map shape_of c.args.column_indexes.now) c.args.shuffle_merge_order.now in
    let cs = shuffled_counts p in
    let count = c.num_rows-num_rows.ensures ∙ sym (length-shuffled p) in
    let same = index-by _ c.args.cardinality_after_merge cs c.num_rows-num_rows.result _ _ c.from_lists.ensures count
    (ap (λ q. rows_with_value (shuffled_counts q)) c.new.ensures) (ap (λ q. starts_of (shuffled_counts q)) c.new-starts.ensures) in
    let few : length cs < 2 ^ 32 = omega (arith, count, c.num_rows-num_rows.type_inv) in
    subst IsIndex (sym same) (index-sound c.args.cardinality_after_merge cs few c.requires.fit.few)
