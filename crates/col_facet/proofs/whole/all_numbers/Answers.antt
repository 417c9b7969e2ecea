use Rattle.std.proofs.Common.{ap}
use Rattle.col_facet.proofs.whole.all_numbers.Goals as goal
use Rattle.col_facet.proofs.FacetLemmas.{whole-found}

pub returns : goal.returns
returns g c =
    whole-found c.facets_of_numbers.result g.T.FacetValue.cell c.args.column.now.shape
    (g.V.ColumnValues.values c.args.column.now.values) _
    (ap g.V.ColumnValues.values c.values.ensures) c.values_are_counted.ensures c.facets_of_numbers.ensures
