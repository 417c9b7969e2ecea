-- A law of facets over stacks of tables.
use Rattle.std.specs.Prelude.{◌≡◌, ℕ, List, [], map, length, find, flat_map, unwrap_or, option_map, Option, Ok}
use Rattle.std.specs.List.{AllByRecursion, range_with_len}
use Rattle.col_model.specs.Category.{Slot, slot_of, same_slot}
use Rattle.col_model.specs.Table.{Cell, Column, Table}
use Rattle.col_model.specs.File.{part_of_table}
use Rattle.col_model.specs.Facets.{facet_of, sums_of_counts}
use Rattle.col_model.specs.Merge.{Required, merged}
use Rattle.col_model.specs.Order.{stack}
use Rattle.col_model.specs.Sound.{IsSound}

-- the table's column of a name and category
abbrev pub column_under : Slot → Table → Option Column
column_under slot t = find (λ c. same_slot (slot_of c.name c.column_type) slot) t.columns

-- how often each cell of this column stands in all its rows; nothing where the table lacks it
abbrev pub facet_under : Slot → Table → List (Cell × ℕ)
facet_under slot t = unwrap_or (option_map
    (λ c. facet_of c.content (range_with_len 0 (length c.content.rows))) (column_under slot t)) []

-- Where sound tables are stacked without a refusal, with or without required columns, the facets of
-- each column of the stack are the sums of those of the tables' columns of its name and category.
abbrev pub FacetsOfStacksAreSummed : Type 0
FacetsOfStacksAreSummed = (ts : List Table) (required : List Required) (row_counts : List ℕ)
    (x : Table) (slot : Slot) → AllByRecursion IsSound ts
    → merged (map part_of_table ts) required (stack row_counts) ≡ Ok x
    → facet_under slot x ≡ sums_of_counts (flat_map (facet_under slot) ts)
