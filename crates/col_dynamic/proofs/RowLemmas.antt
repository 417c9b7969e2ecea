-- The rows of a column of any type.
use Rattle.std.proofs.Common.{◌≡◌, ℕ, ◌∙◌, sym, ap, List, map, length}
use Rattle.std.proofs.lemmas.List.{length-map}
use Rattle.col_model.specs.Index.{Shape}
use Rattle.col_model.specs.Table.{Cell, number}
use Rattle.col_model.specs.Column.{term_cell}
use Rattle.col_types.specs.Cells.{unsigned_cell, bool_cell}
use Rattle.col_text.specs.NumValues.{num_values_of}
use Rattle.col_text.specs.Columns.{row_count, rows_by}
use Rattle.col_text.proofs.FirstLemmas.{length-rows}
use Rattle.col_text.specs.IpValues.{ip_values_of}
use Rattle.col_dynamic.specs.Dynamic.{content_of, dynamic_shape, value_count}
use Rattle.col_dynamic.specs.declared.dynamic_column.DynamicColumn.{DynamicColumn}
use Rattle.col_dynamic.specs.declared.dynamic_column.DynamicColumn.TheVariants as columns

-- the rows of a column are as many as it counts
pub cell-rows : {T : Type 0} (cell : T → Cell) (s : Shape) (xs : List T) → length (map (map cell) (rows_by s xs)) ≡ row_count s (length xs)
cell-rows cell s xs = length-map (rows_by s xs) (map cell) ∙ length-rows s xs

-- and those of a column of any type
pub seen-rows : (c : DynamicColumn) → length (content_of c).rows ≡ row_count (dynamic_shape c) (value_count c)
seen-rows (columns.Bool c) = cell-rows bool_cell c.shape (num_values_of c.values)
seen-rows (columns.I64 c) = cell-rows number c.shape (num_values_of c.values)
seen-rows (columns.U64 c) = cell-rows unsigned_cell c.shape (num_values_of c.values)
seen-rows (columns.IpAddr c) = cell-rows unsigned_cell c.shape (ip_values_of c.values)
seen-rows (columns.DateTime c) = cell-rows number c.shape (num_values_of c.values)
seen-rows (columns.Bytes c) = cell-rows (term_cell c.terms) c.ords.shape (num_values_of c.ords.values)
seen-rows (columns.Str c) = cell-rows (term_cell c.terms) c.ords.shape (num_values_of c.ords.values)

-- how many rows a column has that is this one
pub rows-counted : (c d : DynamicColumn) → c ≡ d → (n : ℕ) → n ≡ row_count (dynamic_shape d) (value_count d)
    → n ≡ length (content_of c).rows
rows-counted c d e n is = is ∙ sym (seen-rows d) ∙ sym (ap (λ x. length (content_of x).rows) e)
