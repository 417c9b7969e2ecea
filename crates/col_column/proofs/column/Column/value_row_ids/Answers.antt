use Rattle.col_column.proofs.RowLemmas.{column_row}
use Rattle.col_column.proofs.column.Column.value_row_ids.Goals as goal

pub returns : goal.returns
returns g c =
    let found = c.value_row_ids_if_any.ensures in
    column_row g.V.ColumnValues.values c.args.self.now _ c.self.inside.values c.args.doc_id
    c.value_row_ids_if_any.result.start c.value_row_ids_if_any.result.end c.self.view_is c.self.invariant
    c.requires found.start found.end
