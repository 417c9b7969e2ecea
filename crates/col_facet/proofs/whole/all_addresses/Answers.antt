use Rattle.std.proofs.Common.{ap}
use Rattle.col_column.specs.IpValues.{ip_values_of}
use Rattle.col_facet.specs.declared.facet_cell.FacetCell.TheVariants.{Addr}
use Rattle.col_facet.proofs.whole.all_addresses.Goals as goal
use Rattle.col_facet.proofs.FacetLemmas.{whole-found}

pub returns : goal.returns
returns c =
    whole-found c.facets_of_addresses.result (λ n. Addr n) c.args.column.now.shape (ip_values_of c.args.column.now.values) _
    (ap ip_values_of c.values.ensures) c.values_are_counted.ensures c.facets_of_addresses.ensures
