use Rattle.std.proofs.Common.{arith}
use Rattle.col_index.specs.Indexes.{shape_of}
use Rattle.col_indexer.proofs.ValueCountLemmas.{positions-counts}
use Rattle.col_merge_column.proofs.cell_counts.num_in_row.Goals as goal

pub overflow_sub-result : goal.overflow_sub-result
overflow_sub-result c =
    let counts = positions-counts (shape_of c.args.column_index.now) c.args.row in
    omega (arith, counts.0, c.value_row_ids-positions.ensures.start, c.value_row_ids-positions.ensures.end)
