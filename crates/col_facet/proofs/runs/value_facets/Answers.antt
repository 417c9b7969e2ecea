use Rattle.std.proofs.Common.{◌≡◌, IfOk, map, subst}
use Rattle.col_facet.specs.Facets.{facets_of}
use Rattle.col_facet.proofs.runs.value_facets.Goals as goal

pub returns : goal.returns
returns g c =
    subst (λ xs. IfOk c.facets_of_values.result (λ facets. facets.items ≡ facets_of (map g.T.FacetValue.cell xs)))
    c.in_ok-values.ensures c.facets_of_values.ensures
