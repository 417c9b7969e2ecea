use Rattle.std.proofs.Common.{◌≡◌, IfOk, List, map, sym, ◌∙◌, ap, subst}
use Rattle.std.proofs.lemmas.List.Sorted.{IsPermutation-map}
use Rattle.col_facet.specs.Facets.{facets_of}
use Rattle.col_facet.specs.declared.facet_cell.FacetCount.{FacetCount}
use Rattle.col_facet.proofs.runs.facets_of_places.Goals as goal
use Rattle.col_facet.proofs.RunLemmas.{facets-moved}

pub returns : goal.returns
returns g c =
    let cell = g.P.PlaceCells.cells c.args.cells.now in
    let moved = IsPermutation-map cell c.args.places.items c.sort_unstable.new.self.items c.sort_unstable.ensures.permutation in
    let same = ap (λ xs. facets_of (map cell xs)) c.as_slice.ensures.value
    ∙ sym (facets-moved (map cell c.args.places.items) (map cell c.sort_unstable.new.self.items) moved) in
    subst (λ (fs : List FacetCount). IfOk c.facets_of_sorted.result (λ facets. facets.items ≡ fs)) same c.facets_of_sorted.ensures
