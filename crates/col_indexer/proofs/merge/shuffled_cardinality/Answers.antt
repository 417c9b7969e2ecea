use Rattle.std.proofs.Common.{map, ◌∙◌}
use Rattle.std.proofs.lemmas.List.{length-map}
use Rattle.col_model.specs.Positions.{picked_counts}
use Rattle.col_index.specs.Indexes.{shape_of}
use Rattle.col_indexer.proofs.SegmentLemmas.{length-fit}
use Rattle.col_indexer.proofs.TightestLemmas.{tightest-ones, ones-picked}
use Rattle.col_indexer.proofs.merge.shuffled_cardinality.Goals as goal

pub returns-then-are_full : goal.returns-then-are_full
returns-then-are_full c =
    let indexes = c.args.indexes.now in
    let order = c.args.order.now in
    let long = length-fit order.counts (map shape_of indexes) c.requires.segments ∙ length-map indexes shape_of in
    tightest-ones (picked_counts (map shape_of indexes) order.addresses)
    (ones-picked indexes order.counts (c.are_full.ensures c.if-are_full.true) long order.addresses c.rows_are_there.ensures)
