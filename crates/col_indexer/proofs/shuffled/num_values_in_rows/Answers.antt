use Rattle.std.proofs.Common.{arith}
use Rattle.col_index.specs.MultiValues.{value_counts_of}
use Rattle.col_indexer.proofs.ValueCountLemmas.{if_any-counts}
use Rattle.col_indexer.proofs.shuffled.num_values_in_rows.Goals as goal

pub overflow_sub-result : goal.overflow_sub-result
overflow_sub-result c =
    let counts = if_any-counts (value_counts_of c.args.index.now) c.args.row in
    omega (arith, counts.0, c.range_if_any-positions.ensures.start, c.range_if_any-positions.ensures.end)

pub returns : goal.returns
returns c =
    let counts = if_any-counts (value_counts_of c.args.index.now) c.args.row in
    omega (arith, counts.1, c.range_if_any-positions.ensures.start, c.range_if_any-positions.ensures.end)
