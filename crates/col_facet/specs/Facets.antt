-- Facets: how often cells stand.
use Rattle.std.specs.Prelude.{◌≡◌, ℕ, ℤ, pos, negsuc, ◌^◌, nat_lt, not, Bool, false, List, ◌++◌, map, flat_map, take, count_by, if◌then◌else◌}
use Rattle.std.specs.List.{list_all, sum_by, AllByRecursion}
use Rattle.std.specs.Ordering.{eq_by_cmp, is_lt, is_gt, nat_cmp, ordering_then}
use Rattle.std.specs.declared.cmp.Ordering.{Ordering}
use Rattle.col_common.specs.Ascending.{all_adjacent}
use Rattle.col_common.specs.declared.error.ColumnarError.{ColumnarError}
use Rattle.col_common.specs.declared.error.ColumnarError.TheVariants.{OutOfMemory, TooLarge}
use Rattle.col_model.specs.ColumnType.{ColumnType, same_type}
use Rattle.col_model.specs.ColumnType as types
use Rattle.col_model.specs.Facets.{sums_of_counts}
use Rattle.col_model.specs.Sorted.{distinct_items, sorted_items}
use Rattle.col_model.specs.Table.{Cell, number, text}
use Rattle.col_facet.specs.Cells.{cell_cmp}
use Rattle.col_facet.specs.declared.facet_cell.FacetCell.{FacetCell}
use Rattle.col_facet.specs.declared.facet_cell.FacetCell.TheVariants.{Num, Addr, Term}
use Rattle.col_facet.specs.declared.facet_cell.FacetCount.{FacetCount}

-- the cells are one
abbrev pub same_cell : FacetCell → FacetCell → Bool
same_cell a b = eq_by_cmp cell_cmp a b

-- the cells of counts
abbrev pub counted_cells : List FacetCount → List FacetCell
counted_cells fs = map (λ f. f.cell) fs

-- the counts of a cell, summed
abbrev pub summed_count : List FacetCount → FacetCell → ℕ
summed_count fs c = sum_by (λ f. if same_cell c f.cell then f.count else 0) fs

-- each cell once, ascending, with its counts summed
unfoldable pub totals_of : List FacetCount → List FacetCount
totals_of fs = map (λ c. record { cell = c; count = summed_count fs c })
    (distinct_items cell_cmp (counted_cells fs))

-- how often a cell stands in a list
abbrev pub copies : List FacetCell → FacetCell → ℕ
copies cells c = count_by (λ d. same_cell c d) cells

-- each cell of a list once, ascending, with how often it stands there
unfoldable pub facets_of : List FacetCell → List FacetCount
facets_of cells = map (λ c. record { cell = c; count = copies cells c })
    (distinct_items cell_cmp cells)

-- the cell of an address by its number; a negative number is none
abbrev pub address_cell : ℤ → FacetCell
address_cell (pos n) = Addr n
address_cell (negsuc n) = Num (negsuc n)

-- the cell of facets that a cell of a column of this type is
abbrev pub facet_cell : ColumnType → Cell → FacetCell
facet_cell t (text b) = Term b
facet_cell t (number z) = if same_type t types.ip then address_cell z else Num z

-- counts of the cells of a column of this type, as facets have them
abbrev pub counted_as : ColumnType → List (Cell × ℕ) → List FacetCount
counted_as t counts = map (λ p. record { cell = facet_cell t p.0; count = p.1 }) counts

-- both types are of addresses, or neither is, so that facets have the same cells for both
abbrev pub IsOfKind : ColumnType → ColumnType → Type 0
IsOfKind t u = same_type t types.ip ≡ same_type u types.ip

-- the totals of counts of cells of two columns of a kind are their sums
abbrev pub TotalsAreSums : Type 0
TotalsAreSums = (t u v : ColumnType) (ps qs : List (Cell × ℕ)) → IsOfKind t u → IsOfKind t v
    → totals_of (counted_as u ps ++ counted_as v qs) ≡ counted_as t (sums_of_counts (ps ++ qs))

-- and so are those of any number of columns
abbrev pub TotalsOfAllAreSums : Type 0
TotalsOfAllAreSums = (t : ColumnType) (lists : List (ColumnType × List (Cell × ℕ)))
    → AllByRecursion (λ l. IsOfKind t l.0) lists
    → totals_of (flat_map (λ l. counted_as l.0 l.1) lists)
    ≡ counted_as t (sums_of_counts (flat_map (λ l. l.1) lists))

-- 64 bits count each cell
abbrev pub are_counted : List FacetCount → Bool
are_counted fs = list_all (λ f. nat_lt f.count (2 ^ 64)) fs

-- each cell stands before the next
abbrev pub are_ascending : List FacetCount → Bool
are_ascending fs = all_adjacent (λ f g. is_lt (cell_cmp f.cell g.cell)) fs

-- why there are no such sums: 64 bits don't count each, or memory is wanting
abbrev pub RefusesSums : ColumnarError → List FacetCount → Type 0
RefusesSums OutOfMemory sums = Unit {0}
RefusesSums TooLarge sums = are_counted sums ≡ false
RefusesSums _ sums = ⊥

-- by falling count, then by cell
abbrev pub rank_cmp : FacetCount → FacetCount → Ordering
rank_cmp f g = ordering_then (nat_cmp g.count f.count) (cell_cmp f.cell g.cell)

-- the first so many by falling count, then by cell
unfoldable pub top_of : ℕ → List FacetCount → List FacetCount
top_of k fs = take k (sorted_items (λ f g. not (is_gt (rank_cmp f g))) fs)
