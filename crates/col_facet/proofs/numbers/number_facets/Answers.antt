use Rattle.col_facet.proofs.numbers.number_facets.Goals as goal
use Rattle.col_facet.proofs.PlaceLemmas.{both-all}

pub table_of_docs-requires-clause-placed : goal.table_of_docs-requires-clause-placed
table_of_docs-requires-clause-placed g c =
    both-all (g.V.ColumnValues.values c.args.column.now.values) c.in-Some.ensures c.min_value-least.ensures.encloses
    c.max_value.ensures.encloses
