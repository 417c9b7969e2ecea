use Rattle.col_facet.proofs.numbers.facets_of_numbers.Goals as goal
use Rattle.col_facet.proofs.PlaceLemmas.{both-all}

pub table_of_list-requires : goal.table_of_list-requires
table_of_list-requires g c =
    both-all (g.V.ColumnValues.values c.args.list.now) c.in-Some.ensures c.min_value-least.ensures.encloses
    c.max_value-greatest.ensures.encloses
