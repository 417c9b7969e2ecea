-- Cells and rows of columns of any type.
use Rattle.std.proofs.Common.{◌≡◌, ℕ, List, [], map, length, sum, Option, IfOk, refl, sym, ◌∙◌, ap, subst, arith}
use Rattle.std.specs.Prelude.{Result}
use Rattle.std.specs.declared.alloc.AllocError.{AllocError}
use Rattle.std.proofs.lemmas.List.{length-map}
use Rattle.std.proofs.lemmas.List.Folds.{sum_by-replicate}
use Rattle.col_model.specs.Cells.{bool_cell, unsigned_cell}
use Rattle.col_model.specs.Column.{term_cell}
use Rattle.col_model.specs.ColumnType.{ColumnType}
use Rattle.col_model.specs.Facets.{cell_order}
use Rattle.col_model.specs.Index.{Shape, empty_shape, full_shape, optional_shape, multivalued_shape}
use Rattle.col_model.specs.Positions.{rows_with_value}
use Rattle.col_model.specs.Table.{Cell, number}
use Rattle.col_model.proofs.ListLaws.{map-map}
use Rattle.col_column.specs.Columns.{IsCounted, counts_by, rows_by, content_seen}
use Rattle.col_column.specs.IpValues.{ip_values_of}
use Rattle.col_column.specs.Offsets.{cardinality_in}
use Rattle.col_column.specs.Versions.{cardinality_of}
use Rattle.col_dynamic.specs.Dynamic.{type_of, content_of, dynamic_shape, value_count}
use Rattle.col_dynamic.specs.declared.dynamic_column.DynamicColumn.{DynamicColumn}
use Rattle.col_dynamic.specs.declared.dynamic_column.DynamicColumn.TheVariants as columns
use Rattle.col_numbers.specs.NumValues.{num_values_of}
use Rattle.col_text.specs.Texts.{Texts, texts_content}
use Rattle.col_types.specs.Kinds.{kind_of}
use Rattle.col_facet.specs.Cells.{cell_cmp}
use Rattle.col_facet.specs.Facets.{facet_cell}
use Rattle.col_facet.specs.declared.facet_cell.FacetCell.{FacetCell}
use Rattle.col_facet.proofs.CellLemmas.{cells-keep}
use Rattle.col_look.specs.Described.{told_of, told_by, valued_rows, distinct_terms}
use Rattle.col_look.specs.Ends.{cells_of}
use Rattle.col_look.specs.FacetEnds.{ends_of}
use Rattle.col_look.specs.declared.description.Description.{Description}
use Rattle.col_look.proofs.CutLemmas.{joined-cut, lengths-cut}
use Rattle.col_look.proofs.FirstLemmas.{first-map}

-- the counts of rows sum up to the values
sum-counted : {T : Type 0} (s : Shape) (xs : List T) → IsCounted s (length xs) → sum (counts_by s (length xs)) ≡ length xs
sum-counted (empty_shape m) xs none = sum_by-replicate (λ c. c) m 0 ∙ omega (arith, none)
sum-counted full_shape xs any = sum_by-replicate (λ c. c) (length xs) 1 ∙ omega arith
sum-counted (optional_shape cs) xs all = all
sum-counted (multivalued_shape cs) xs all = all

module _ {T : Type 0} (terms : List (List ℕ)) (cell : T → Cell) (s : Shape) (xs : List T) (counted : IsCounted s (length xs)) where
  -- the cells of all rows are those of all values
  pub cells-seen : cells_of (content_seen terms cell s xs) ≡ map cell xs
  unfolding rows_by
  cells-seen = joined-cut cell (counts_by s (length xs)) xs (sum-counted s xs counted)

  -- the rows with cells are those that the index counts
  pub rows-seen : valued_rows (content_seen terms cell s xs) ≡ length (rows_with_value (counts_by s (length xs)))
  unfolding rows_by
  rows-seen =
      ap (λ cs. length (rows_with_value cs)) (lengths-cut cell (counts_by s (length xs)) xs (sum-counted s xs counted))

  -- there are as many cells as values
  pub count-seen : length (cells_of (content_seen terms cell s xs)) ≡ length xs
  count-seen = ap length cells-seen ∙ length-map xs cell

  -- the cells as facets have them
  pub facets-seen : (t : ColumnType) → map (facet_cell t) (cells_of (content_seen terms cell s xs)) ≡ map (λ x. facet_cell t (cell x)) xs
  facets-seen t = ap (map (facet_cell t)) cells-seen ∙ map-map (facet_cell t) cell xs

-- ---- columns of any type

-- as many cells as values
pub count-is : (c : DynamicColumn) → IsCounted (dynamic_shape c) (value_count c) → length (cells_of (content_of c)) ≡ value_count c
count-is (columns.Bool c) counted = count-seen [] bool_cell c.shape (num_values_of c.values) counted
count-is (columns.I64 c) counted = count-seen [] number c.shape (num_values_of c.values) counted
count-is (columns.U64 c) counted = count-seen [] unsigned_cell c.shape (num_values_of c.values) counted
count-is (columns.IpAddr c) counted = count-seen [] unsigned_cell c.shape (ip_values_of c.values) counted
count-is (columns.DateTime c) counted = count-seen [] number c.shape (num_values_of c.values) counted
count-is (columns.Bytes c) counted = count-seen c.terms (term_cell c.terms) c.ords.shape (num_values_of c.ords.values) counted
count-is (columns.Str c) counted = count-seen c.terms (term_cell c.terms) c.ords.shape (num_values_of c.ords.values) counted

-- as many rows with a cell as the index counts
pub rows-are : (c : DynamicColumn) → IsCounted (dynamic_shape c) (value_count c)
    → valued_rows (content_of c) ≡ length (rows_with_value (counts_by (dynamic_shape c) (value_count c)))
rows-are (columns.Bool c) counted = rows-seen [] bool_cell c.shape (num_values_of c.values) counted
rows-are (columns.I64 c) counted = rows-seen [] number c.shape (num_values_of c.values) counted
rows-are (columns.U64 c) counted = rows-seen [] unsigned_cell c.shape (num_values_of c.values) counted
rows-are (columns.IpAddr c) counted = rows-seen [] unsigned_cell c.shape (ip_values_of c.values) counted
rows-are (columns.DateTime c) counted = rows-seen [] number c.shape (num_values_of c.values) counted
rows-are (columns.Bytes c) counted = rows-seen c.terms (term_cell c.terms) c.ords.shape (num_values_of c.ords.values) counted
rows-are (columns.Str c) counted = rows-seen c.terms (term_cell c.terms) c.ords.shape (num_values_of c.ords.values) counted

-- its cardinality is that of the index
cardinality-is : (c : DynamicColumn) → (content_of c).cardinality ≡ cardinality_in (dynamic_shape c)
cardinality-is (columns.Bool c) = refl
cardinality-is (columns.I64 c) = refl
cardinality-is (columns.U64 c) = refl
cardinality-is (columns.IpAddr c) = refl
cardinality-is (columns.DateTime c) = refl
cardinality-is (columns.Bytes c) = refl
cardinality-is (columns.Str c) = refl

-- ends of the cells as facets have them are those of the cells of a column that this one is
pub ends-of : (e : Option FacetCell × Option FacetCell) (c d : DynamicColumn) → c ≡ d
    → e ≡ ends_of (map (facet_cell (type_of d)) (cells_of (content_of d)))
    → e ≡ ends_of (map (facet_cell (type_of c)) (cells_of (content_of c)))
ends-of e c d same h = subst (λ x. e ≡ ends_of (map (facet_cell (type_of x)) (cells_of (content_of x)))) (sym same) h

-- the same of terms that a column has, where they don't run out of memory
pub ends-of-terms : (r : Result (Option FacetCell × Option FacetCell) AllocError) (t : ColumnType) (c d : DynamicColumn)
    (u v : Texts) → c ≡ d → type_of d ≡ t → content_of d ≡ texts_content u → v ≡ u
    → IsCounted u.ords.shape (length (num_values_of u.ords.values))
    → IfOk r (λ ends. ends ≡ ends_of (map (λ n. facet_cell t (term_cell v.terms n)) (num_values_of v.ords.values)))
    → IfOk r (λ ends. ends ≡ ends_of (map (facet_cell (type_of c)) (cells_of (content_of c))))
ends-of-terms r t c d u v same kind content own counted h =
    let told = subst (λ (x : Texts). IfOk r (λ ends. ends
    ≡ ends_of (map (λ n. facet_cell t (term_cell x.terms n)) (num_values_of x.ords.values)))) own h in
    let seen = subst (λ fs. IfOk r (λ ends. ends ≡ ends_of fs))
    (sym (facets-seen u.terms (term_cell u.terms) u.ords.shape (num_values_of u.ords.values) counted t)) told in
    let known = subst (λ k. IfOk r (λ ends. ends ≡ ends_of (map (facet_cell k) (cells_of (texts_content u))))) (sym kind) seen in
    let whole = subst (λ k. IfOk r (λ ends. ends ≡ ends_of (map (facet_cell (type_of d)) (cells_of k)))) (sym content) known in
    subst (λ x. IfOk r (λ ends. ends ≡ ends_of (map (facet_cell (type_of x)) (cells_of (content_of x))))) (sym same) whole

-- a description by the parts of a column tells of it
pub told-is : (d : Description) (c : DynamicColumn) → IsCounted (dynamic_shape c) (value_count c)
    → kind_of d.column_type ≡ type_of c → cardinality_of d.cardinality ≡ cardinality_in (dynamic_shape c)
    → d.num_values ≡ value_count c
    → d.num_rows_with_values ≡ length (rows_with_value (counts_by (dynamic_shape c) (value_count c)))
    → d.distinct ≡ distinct_terms (type_of c) (cells_of (content_of c))
    → (d.least, d.greatest) ≡ ends_of (map (facet_cell (type_of c)) (cells_of (content_of c)))
    → told_by d ≡ told_of (type_of c) (content_of c)
told-is d c counted kind cardinality values rows distinct ends =
    let t = type_of c in
    let cells = cells_of (content_of c) in
    let all = values ∙ sym (count-is c counted) in
    let valued = rows ∙ sym (rows-are c counted) in
    let shaped = cardinality ∙ sym (cardinality-is c) in
    let least = ap (λ (e : Option FacetCell × Option FacetCell). e.0) ends
    ∙ first-map (facet_cell t) cell_order cell_cmp (cells-keep t) cells in
    let greatest = ap (λ (e : Option FacetCell × Option FacetCell). e.1) ends
    ∙ first-map (facet_cell t) (λ x y. cell_order y x) (λ x y. cell_cmp y x) (λ x y. cells-keep t y x) cells in
    λ i. record {
      column_type = kind i;
      cardinality = shaped i;
      num_values = all i;
      num_rows_with_values = valued i;
      distinct = distinct i;
      least = least i;
      greatest = greatest i;
    }
