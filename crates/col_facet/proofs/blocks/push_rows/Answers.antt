use Rattle.std.proofs.Common.{ap}
use Rattle.col_facet.proofs.blocks.push_rows.Goals as goal
use Rattle.col_facet.proofs.DocLemmas.{range-within, range-added}

pub push_range-requires : goal.push_range-requires
push_range-requires g c =
    range-within c.args.column.now.shape _ (g.V.ColumnValues.values c.args.column.now.values) _ c.args.start c.args.end
    c.docid_range_to_rowids-rows.result.end (ap g.V.ColumnValues.values c.values.ensures) c.index.ensures
    c.values_are_counted.ensures c.requires.order c.requires.within c.docid_range_to_rowids-rows.ensures.end

pub returns : goal.returns
returns g c =
    range-added c.push_range.result c.args.column.now.shape _ (g.V.ColumnValues.values c.args.column.now.values) _
    c.args.values.now.items c.push_range.new.values.items c.args.start c.args.end
    c.docid_range_to_rowids-rows.result.start c.docid_range_to_rowids-rows.result.end
    (ap g.V.ColumnValues.values c.values.ensures) c.index.ensures c.requires.order
    c.docid_range_to_rowids-rows.ensures.start c.docid_range_to_rowids-rows.ensures.end c.push_range.ensures
