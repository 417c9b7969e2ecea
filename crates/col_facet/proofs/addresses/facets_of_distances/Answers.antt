use Rattle.std.proofs.Common.{◌≡◌, ◌+◌, List, IfOk, map, sym, ◌∙◌, ap, subst}
use Rattle.col_model.proofs.ListLaws.{map-map}
use Rattle.col_facet.specs.Facets.{facets_of}
use Rattle.col_facet.specs.declared.facet_cell.FacetCell.TheVariants.{Addr}
use Rattle.col_facet.specs.declared.facet_cell.FacetCount.{FacetCount}
use Rattle.col_facet.proofs.addresses.facets_of_distances.Goals as goal

pub returns-in-Some : goal.returns-in-Some
returns-in-Some c =
    subst (λ (fs : List FacetCount). IfOk c.table_of_distances.result (λ facets. facets.items ≡ fs))
    (ap (λ ds. facets_of (map (λ n. Addr (c.args.addresses.now + n)) ds)) c.as_slice-in-Some.ensures.value
    ∙ ap facets_of (sym (map-map (λ n. Addr n) (λ n. c.args.addresses.now + n) c.args.distances.items)))
    c.table_of_distances.ensures

pub returns-in-None : goal.returns-in-None
returns-in-None c =
    subst (λ (fs : List FacetCount). IfOk c.facets_of_places.result (λ facets. facets.items ≡ fs))
    (ap facets_of (sym (map-map (λ n. Addr n) (λ n. c.args.addresses.now + n) c.args.distances.items)))
    c.facets_of_places.ensures
