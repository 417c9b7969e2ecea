-- The ids of the values of rows that a shuffle names.
use Rattle.std.specs.Prelude.{◌≡◌, ℕ, List, [], map, Option, Some}
use Rattle.col_model.specs.Order.{Order, stack, shuffle}
use Rattle.col_model.specs.U64List.{joined_lists}
use Rattle.col_text.specs.Texts.{Texts}
use Rattle.col_merge_texts.specs.Items.{item_at}
use Rattle.col_merge_values.specs.Merges.{picked_row}
use Rattle.col_merge_values.specs.TermColumns.{term_columns}
use Rattle.col_merge_texts.specs.Noting.{Noted}
use Rattle.col_merge_texts.specs.Taking.{Place}

-- the places of a row's values
abbrev pub row_places : List Texts → ℕ × ℕ → List Place
row_places columns row = map (λ ord. (row.0, ord)) (picked_row (term_columns columns) row)

-- those of each row, one behind another
abbrev pub places_of : List Texts → List (ℕ × ℕ) → List Place
places_of columns rows = joined_lists (map (row_places columns) rows)

-- each of the places has its id
abbrev pub AreIds : List (List (Option ℕ)) → List Place → List ℕ → Type 0
AreIds held places ids = map (item_at held) places ≡ map (λ id. Some (Some id)) ids

-- the ids of the values of a shuffle's rows; of a stack none are kept
abbrev pub HasIds : List Texts → Order → Noted → List ℕ → Type 0
HasIds columns (stack counts) n ids = ids ≡ []
HasIds columns (shuffle counts rows) n ids = AreIds n.ids (places_of columns rows) ids
