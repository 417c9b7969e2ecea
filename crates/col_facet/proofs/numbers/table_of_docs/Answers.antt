use Rattle.std.proofs.Common.{◌≡◌, ◌+◌, ◌==◌, List, IfOk, ◌∙◌, ap, subst}
use Rattle.std.specs.List.{count_by}
use Rattle.col_column.specs.Columns.{rows_of_values}
use Rattle.col_facet.specs.Tables.{IsPlaced, counted_from}
use Rattle.col_facet.specs.Values.{values_in_rows}
use Rattle.col_facet.specs.declared.facet_cell.FacetCount.{FacetCount}
use Rattle.col_facet.proofs.numbers.table_of_docs.Goals as goal
use Rattle.col_facet.proofs.FacetLemmas.{all-values}
use Rattle.col_facet.proofs.PlaceLemmas.{table-placed}

pub returns : goal.returns
returns g c =
    let code = g.T.MonotonicallyMappableToU64.code in
    let cells = g.T.PlaceCells.cells c.args.least in
    let column = c.args.column.now in
    let values = values_in_rows (rows_of_values g.V.ColumnValues.values column) c.args.docs.now in
    subst (λ (fs : List FacetCount). IfOk c.counted_facets.result (λ facets. facets.items ≡ fs))
    (ap (counted_from cells 0) c.as_slice.ensures.value
    ∙ table-placed code g.T.FacetValue.cell cells (code c.args.least) c.args.len values c.in_ok-counts.counts.items
    (c.cells_have_places.ensures.rising c.args.least c.args.len)
    (all-values (IsPlaced code g.T.FacetValue.cell cells (code c.args.least) c.args.len) column.shape
    (g.V.ColumnValues.values column.values) c.args.docs.now c.requires.placed)
    c.in_ok-counts.ensures.len
    (λ i h. c.in_ok-counts.ensures.counts i h ∙ ap (λ base. count_by (λ x. code x == base + i) values) c.to_u64.ensures))
    c.counted_facets.ensures
