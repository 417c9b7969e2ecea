use Rattle.std.proofs.Common.{◌≡◌, ◌+◌, ◌==◌, List, IfOk, ◌∙◌, ap, subst}
use Rattle.std.specs.List.{count_by}
use Rattle.col_facet.specs.Tables.{counted_from}
use Rattle.col_facet.specs.declared.facet_cell.FacetCount.{FacetCount}
use Rattle.col_facet.proofs.numbers.table_of_list.Goals as goal
use Rattle.col_facet.proofs.PlaceLemmas.{table-placed}

pub returns : goal.returns
returns g c =
    let code = g.T.MonotonicallyMappableToU64.code in
    let cells = g.T.PlaceCells.cells c.args.least in
    let values = g.V.ColumnValues.values c.args.list.now in
    subst (λ (fs : List FacetCount). IfOk c.counted_facets.result (λ facets. facets.items ≡ fs))
    (ap (counted_from cells 0) c.as_slice.ensures.value
    ∙ table-placed code g.T.FacetValue.cell cells (code c.args.least) c.args.len values c.in_ok-counts.counts.items
    (c.cells_have_places.ensures.rising c.args.least c.args.len) c.requires c.in_ok-counts.ensures.len
    (λ i h. c.in_ok-counts.ensures.counts i h ∙ ap (λ base. count_by (λ x. code x == base + i) values) c.to_u64.ensures))
    c.counted_facets.ensures
