-- The first and the last of cells of facets.
use Rattle.std.specs.Prelude.{List, Option}
use Rattle.col_facet.specs.Cells.{cell_cmp}
use Rattle.col_facet.specs.declared.facet_cell.FacetCell.{FacetCell}
use Rattle.col_look.specs.Ends.{first_by, last_by}

-- the first and the last of cells of facets
abbrev pub ends_of : List FacetCell → Option FacetCell × Option FacetCell
ends_of cells = (first_by cell_cmp cells, last_by cell_cmp cells)
