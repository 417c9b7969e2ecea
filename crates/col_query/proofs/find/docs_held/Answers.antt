use Rattle.col_index.specs.Indexes.{shape_of}
use Rattle.col_query.proofs.FindLemmas.{docs-held}
use Rattle.col_query.proofs.find.docs_held.Goals as goal

pub returns : goal.returns
returns g c =
    let column = c.args.column.now in
    docs-held (shape_of c.index.result.now) column.shape (g.V.ColumnValues.values column.values) c.args.num_docs
    c.docs_counted.result c.index.ensures c.values_are_counted.ensures c.docs_counted.ensures
