use Rattle.std.proofs.Common.{arith}
use Rattle.col_merge_column.proofs.SingleLemmas.{one-index}
use Rattle.col_merge_column.proofs.cell_counts.most_in_rows.Goals as goal

pub loop-column_index-preserved : goal.loop-column_index-preserved
loop-column_index-preserved c =
    one-index c.args.column_indexes.now c.loop-column_index.column_index-index c.most_in_row.result
    c.max-most.result c.loop-column_index.most c.column_index-item.result c.loop-column_index-test.true
    c.column_index-item.is c.most_in_row.ensures (omega (arith, c.max-most.ensures))
    c.loop-column_index.invariant
