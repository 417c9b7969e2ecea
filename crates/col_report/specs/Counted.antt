-- Counts of cells, as facets have them, in a report.
use Rattle.std.specs.Prelude.{pos, [], ◌∷◌, if◌then◌else◌}
use Rattle.hex.specs.Hex.{encode_lower}
use Rattle.serde_json.specs.Data.{Data, number, string}
use Rattle.serde_json.specs.Find.{of_integer}
use Rattle.col_model.specs.ColumnType.{ColumnType, same_type}
use Rattle.col_model.specs.ColumnType as types
use Rattle.col_model.specs.Table as cells
use Rattle.col_program.specs.Report.{list_data, count_data, cell_data, text_data}
use Rattle.col_facet.specs.declared.facet_cell.FacetCell.{FacetCell}
use Rattle.col_facet.specs.declared.facet_cell.FacetCell.TheVariants.{Num, Addr, Term}
use Rattle.col_facet.specs.declared.facet_cell.FacetCount.{FacetCount}

-- a cell of a column of this type
abbrev pub shown_cell : ColumnType → FacetCell → Data
shown_cell t (Num z) =
    if same_type t types.bool then cell_data types.bool (cells.number z) else number (of_integer z)
shown_cell t (Addr n) = cell_data types.ip (cells.number (pos n))
shown_cell t (Term s) =
    if same_type t types.bytes then string (encode_lower s) else text_data s

-- a cell with its count
abbrev pub shown_count : ColumnType → FacetCount → Data
shown_count t f = list_data (shown_cell t f.cell ∷ count_data f.count ∷ [])
