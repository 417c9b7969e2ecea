-- What is told of a column. States docs/RULES.md, Descriptions.
use Rattle.std.specs.Prelude.{ℕ, List, map, length, option_map, Option, Some, None, if◌then◌else◌}
use Rattle.col_model.specs.ColumnType.{ColumnType, has_terms}
use Rattle.col_model.specs.Facets.{cell_order}
use Rattle.col_model.specs.Positions.{rows_with_value}
use Rattle.col_model.specs.Sorted.{distinct_items}
use Rattle.col_model.specs.Table.{Cardinality, Cell, Content}
use Rattle.col_types.specs.Kinds.{kind_of}
use Rattle.col_text.specs.Versions.{cardinality_of}
use Rattle.col_facet.specs.Facets.{facet_cell}
use Rattle.col_facet.specs.declared.facet_cell.FacetCell.{FacetCell}
use Rattle.col_look.specs.Ends.{cells_of, least_cell, greatest_cell}
use Rattle.col_look.specs.declared.description.Description.{Description}

-- how many different terms cells have, where the type has terms
abbrev pub distinct_terms : ColumnType → List Cell → Option ℕ
distinct_terms t cells =
    if has_terms t then Some (length (distinct_items cell_order cells)) else None

-- how many rows have a cell
abbrev pub valued_rows : Content → ℕ
valued_rows content = length (rows_with_value (map length content.rows))

-- what is told of a column
pub record Told : Type 0 where
  pub column_type : ColumnType
  pub cardinality : Cardinality
  pub num_values : ℕ
  pub num_rows_with_values : ℕ
  pub distinct : Option ℕ
  pub least : Option FacetCell
  pub greatest : Option FacetCell

-- what is told of a column of this type, in which this stands
abbrev pub told_of : ColumnType → Content → Told
told_of t content = record {
  column_type = t;
  cardinality = content.cardinality;
  num_values = length (cells_of content);
  num_rows_with_values = valued_rows content;
  distinct = distinct_terms t (cells_of content);
  least = option_map (facet_cell t) (least_cell (cells_of content));
  greatest = option_map (facet_cell t) (greatest_cell (cells_of content));
}

-- what a description tells
abbrev pub told_by : Description → Told
told_by d = record {
  column_type = kind_of d.column_type;
  cardinality = cardinality_of d.cardinality;
  num_values = d.num_values;
  num_rows_with_values = d.num_rows_with_values;
  distinct = d.distinct;
  least = d.least;
  greatest = d.greatest;
}
