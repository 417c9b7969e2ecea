-- The rows of a column, by the documents of its values.
use Rattle.std.specs.Prelude.{ℕ, ℤ, pos, ◌+ℤ◌, nat_le, ◌∷◌, ◌==◌, Bool, false, List, [], map, filter, zip, if◌then◌else◌, ◌≡◌, ◌<◌, ◌^◌, true, length}
use Rattle.std.specs.List.{range_with_len}
use Rattle.col_model.specs.Column.{number_cell}
use Rattle.col_model.specs.ColumnType.{ColumnType}
use Rattle.col_model.specs.Limits.{tightest}
use Rattle.col_model.specs.Lookup.{is_at_most}
use Rattle.col_model.specs.Sorted.{sorted_items}
use Rattle.col_model.specs.Table.{Cell, number, Content, full}
use Rattle.col_common.specs.Ascending.{are_below}

-- the values of a document, in order
abbrev pub values_at : {X : Type 0} → List (ℕ × X) → ℕ → List X
values_at ps d = map (λ p. p.1) (filter (λ p. p.0 == d) ps)

-- the values of the documents that stand at the rows
unfoldable pub picked_rows : {X : Type 0} → List ℕ → List (ℕ × X) → List (List X)
picked_rows row_docs ps = map (values_at ps) row_docs

-- the numbers of a row, sorted where the flag is set
abbrev pub numbers_in_order : Bool → List ℕ → List ℕ
numbers_in_order sorts xs = if sorts then sorted_items nat_le xs else xs

-- the rows of ordinals beside their documents
unfoldable pub ord_rows : Bool → List ℕ → List (ℕ × ℕ) → List (List ℕ)
ord_rows sorts row_docs ps = map (numbers_in_order sorts) (picked_rows row_docs ps)

-- the cells of a row, sorted where the flag is set
abbrev pub cells_in_order : Bool → List Cell → List Cell
cells_in_order sorts cells = if sorts then sorted_items is_at_most cells else cells

-- the rows of cells beside their documents
unfoldable pub cell_rows : Bool → List ℕ → List (ℕ × Cell) → List (List Cell)
cell_rows sorts row_docs qs = map (cells_in_order sorts) (picked_rows row_docs qs)

-- what stands in a column of such rows
abbrev pub rows_content : Bool → List ℕ → List (List ℕ) → List (ℕ × Cell) → Content
rows_content sorts row_docs terms qs =
    let rows = cell_rows sorts row_docs qs in
    record { cardinality = tightest rows; terms = terms; rows = rows }

-- numbers as cells of a type, each beside its document
abbrev pub number_cells : ColumnType → List ℕ → List ℕ → List (ℕ × Cell)
number_cells t docs numbers = zip docs (map (number_cell t) numbers)

-- what stands in a column of numbers
abbrev pub number_content : ColumnType → List ℕ → List ℕ → List ℕ → Content
number_content t row_docs docs numbers =
    rows_content false row_docs [] (number_cells t docs numbers)

-- what stands in a column of numbers that rise by 1 from a start on
abbrev pub tie_content : ℤ → ℕ → Content
tie_content start n = record {
  cardinality = full;
  terms = [];
  rows = map (λ r. number (start +ℤ pos r) ∷ []) (range_with_len 0 n);
}

-- values beside their documents, which are below a count of rows; 32 bits count the values
pub record StandBeside (count : ℕ) (docs values : List ℕ) : Type 0 where
  pub below : are_below count docs ≡ true
  pub beside : length docs ≡ length values
  pub few : length values < 2 ^ 32
