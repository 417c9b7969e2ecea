use Rattle.std.proofs.Common.{◌≡◌, ◌+◌, List, IfOk, ◌∙◌, ap, subst}
use Rattle.col_facet.specs.Tables.{counted_from}
use Rattle.col_facet.specs.declared.facet_cell.FacetCell.TheVariants.{Addr}
use Rattle.col_facet.specs.declared.facet_cell.FacetCount.{FacetCount}
use Rattle.col_facet.proofs.addresses.table_of_distances.Goals as goal
use Rattle.col_facet.proofs.NumberLemmas.{addresses-rise}
use Rattle.col_facet.proofs.PlaceLemmas.{own-places, table-placed}

pub returns : goal.returns
returns c =
    subst (λ (fs : List FacetCount). IfOk c.counted_facets.result (λ facets. facets.items ≡ fs))
    (ap (counted_from (λ n. Addr (c.args.addresses.now + n)) 0) c.as_slice.ensures.value
    ∙ table-placed (λ n. n) (λ n. Addr (c.args.addresses.now + n)) (λ n. Addr (c.args.addresses.now + n)) 0 c.args.len
    c.args.distances.now c.in_ok-counts.counts.items (addresses-rise c.args.addresses.now c.args.len)
    (own-places (λ n. Addr (c.args.addresses.now + n)) c.args.len c.args.distances.now c.requires)
    c.in_ok-counts.ensures.len c.in_ok-counts.ensures.counts)
    c.counted_facets.ensures
