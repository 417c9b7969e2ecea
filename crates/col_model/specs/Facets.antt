-- Facets: how often cells stand. States docs/RULES.md, Facets.
use Rattle.std.specs.Prelude.{ℕ, Bool, List, map, flat_map, count_by, if◌then◌else◌}
use Rattle.std.specs.List.{sum_by}
use Rattle.std.specs.Cmp.Lexicographic.{slice_cmp}
use Rattle.std.specs.Ordering.{eq_by_cmp, int_cmp, nat_cmp}
use Rattle.std.specs.declared.cmp.Ordering.{Ordering}
use Rattle.std.specs.declared.cmp.Ordering.TheVariants.{Less, Greater}
use Rattle.col_model.specs.Lookup.{row_of}
use Rattle.col_model.specs.Sorted.{distinct_items}
use Rattle.col_model.specs.Table.{Cell, number, text, Content}

-- numbers before texts, by number, or byte by byte
abbrev pub cell_order : Cell → Cell → Ordering
cell_order (number a) (number b) = int_cmp a b
cell_order (number a) (text b) = Less
cell_order (text a) (number b) = Greater
cell_order (text a) (text b) = slice_cmp nat_cmp a b

-- the cells are one
abbrev pub are_one : Cell → Cell → Bool
are_one a b = eq_by_cmp cell_order a b

-- each cell of a list once, ascending, with how often it stands there
unfoldable pub counts_of_cells : List Cell → List (Cell × ℕ)
counts_of_cells cells =
    map (λ c. (c, count_by (are_one c) cells)) (distinct_items cell_order cells)

-- how often the cells of a column stand in the rows of documents
abbrev pub facet_of : Content → List ℕ → List (Cell × ℕ)
facet_of content docs = counts_of_cells (flat_map (row_of content) docs)

-- the counts of a cell, summed
abbrev pub sum_of_counts : List (Cell × ℕ) → Cell → ℕ
sum_of_counts counts c = sum_by (λ p. if are_one c p.0 then p.1 else 0) counts

-- each cell of some counts once, ascending, with its counts summed
unfoldable pub sums_of_counts : List (Cell × ℕ) → List (Cell × ℕ)
sums_of_counts counts = map (λ c. (c, sum_of_counts counts c))
    (distinct_items cell_order (map (λ p. p.0) counts))
