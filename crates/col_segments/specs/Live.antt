-- The rows of a set, and its tables as one.
use Rattle.std.specs.Prelude.{ℕ, ◌==◌, not, List, [], ◌∷◌, map, filter, find, flat_map, length, option_map, unwrap_or, Result, Ok}
use Rattle.std.specs.List.{enumerate_from}
use Rattle.col_model.specs.Category.{Slot, slot_of, same_slot}
use Rattle.col_model.specs.File.{part_of_table}
use Rattle.col_model.specs.Lookup.{row_of}
use Rattle.col_model.specs.Merge.{merged}
use Rattle.col_model.specs.Order.{shuffle}
use Rattle.col_model.specs.Refusal.{Refusal, ◌>>=◌}
use Rattle.col_model.specs.Table.{Cell, Table}
use Rattle.col_segments.specs.Segments.{HeldTable, all_alive}

-- a row: its cells under each name and category, none where it has none
abbrev pub Row : Type 0
Row = Slot → List Cell

-- a row of a table
abbrev pub row_in : Table → ℕ → Row
row_in t r slot =
    let column = find (λ c. same_slot (slot_of c.name c.column_type) slot) t.columns in
    unwrap_or (option_map (λ c. row_of c.content r) column) []

-- The rows that are alive, table after table; a row id is a place among them.
abbrev pub live : List HeldTable → List Row
live hs = flat_map (λ h. map (row_in h.table) h.alive) hs

-- the tables that have a row alive
abbrev pub with_alive : List HeldTable → List HeldTable
with_alive hs = filter (λ h. not (length h.alive == 0)) hs

-- their rows that are alive, as (table, row)
abbrev pub addresses : List HeldTable → List (ℕ × ℕ)
addresses hs = flat_map (λ p. map (λ r. (p.0, r)) p.1.alive) (enumerate_from 0 hs)

-- The merged table of the tables that have a row alive, by the rows alive in order, with nothing
-- required; or its refusal.
abbrev pub merged_alive : List HeldTable → Result Table Refusal
merged_alive hs =
    let kept = with_alive hs in
    let tables = map (λ h. h.table) kept in
    merged (map part_of_table tables) []
    (shuffle (map (λ t. t.row_count) tables) (addresses kept))

-- the set as one table, all of whose rows are alive
abbrev pub compacted : List HeldTable → Result (List HeldTable) Refusal
compacted hs = merged_alive hs >>= λ t. Ok (all_alive t ∷ [])
