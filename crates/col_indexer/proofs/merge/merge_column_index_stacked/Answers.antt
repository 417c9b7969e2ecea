use Rattle.std.proofs.Common.{◌<◌, ◌^◌, length, sym, ap, subst, ◌∙◌, arith}
use Rattle.col_model.specs.Order.{all_rows}
use Rattle.col_model.specs.Positions.{rows_with_value, starts_of}
use Rattle.col_order.proofs.PickLemmas.{length-all_rows}
use Rattle.col_indexer.specs.Spelling.{IsIndex, index_shape}
use Rattle.col_model.specs.Index.{counts_over}
use Rattle.col_indexer.specs.Stacks.{index_segments, stacked_counts}
use Rattle.col_indexer.proofs.MergeLemmas.{index-counted, index-sound, index-by}
use Rattle.col_indexer.proofs.StackedMergeLemmas.{stacked-ones, stacked-few, length-stacked}
use Rattle.col_indexer.proofs.merge.merge_column_index_stacked.Goals as goal

pub returns-clause-counts : goal.returns-clause-counts
returns-clause-counts c =
    let counts = c.args.stack_merge_order.now in
    let indexes = c.args.column_indexes.now in
    let cs = stacked_counts (index_segments indexes counts) in
    let long = length-stacked counts indexes c.requires.fit.segments in
    let same = index-by _ c.args.cardinality_after_merge cs c.num_rows-num_rows.result _ _ c.from_lists.ensures
    (c.num_rows-num_rows.ensures ∙ sym (length-all_rows counts) ∙ long) (ap (λ s. rows_with_value (stacked_counts s)) c.new.ensures)
    (ap (λ s. starts_of (stacked_counts s)) c.new-starts.ensures) in
    ap (λ i. counts_over (length (all_rows counts)) (index_shape i)) same
    ∙ index-counted c.args.cardinality_after_merge cs _ _ c.requires.cardinality long
    (stacked-ones counts indexes c.requires.fit.segments) (stacked-few counts indexes c.requires.fit.segments)

pub returns-clause-index : goal.returns-clause-index
returns-clause-index c =
    let counts = c.args.stack_merge_order.now in
    let cs = stacked_counts (index_segments c.args.column_indexes.now counts) in
    let long = length-stacked counts c.args.column_indexes.now c.requires.fit.segments in
    let count = c.num_rows-num_rows.ensures ∙ sym (length-all_rows counts) ∙ long in
    let same = index-by _ c.args.cardinality_after_merge cs c.num_rows-num_rows.result _ _ c.from_lists.ensures count
    (ap (λ s. rows_with_value (stacked_counts s)) c.new.ensures) (ap (λ s. starts_of (stacked_counts s)) c.new-starts.ensures) in
    let few : length cs < 2 ^ 32 = omega (arith, count, c.num_rows-num_rows.type_inv) in
    subst IsIndex (sym same) (index-sound c.args.cardinality_after_merge cs few c.requires.fit.few)
