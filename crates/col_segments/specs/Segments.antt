-- Segments: tables with the rows that are alive in each, and what each change makes of them. States
-- docs/RULES.md, Sets of segments.
use Rattle.std.specs.Prelude.{ℕ, ◌+◌, ◌^◌, ◌==◌, not, nat_le, List, [], ◌∷◌, ◌++◌, length, sum_by, if◌then◌else◌, Result, Ok, Err}
use Rattle.std.specs.List.{range_with_len}
use Rattle.col_model.specs.File.{table_of}
use Rattle.col_model.specs.Refusal.{Refusal, ◌>>=◌, or_refuse, refuse_if, invalid_data, bad_order, too_large}
use Rattle.col_model.specs.Table.{Table}
pub use Rattle.col_places.specs.Places.{Ascends, are_places, is_listed, rows_without}
use Rattle.col_segments.specs.RowIds.{row_ids}

-- a table, and the rows of it that are alive, ascending
pub record HeldTable : Type 0 where
  pub table : Table
  pub alive : List ℕ

-- how many rows are alive
abbrev pub alive_count : List HeldTable → ℕ
alive_count hs = sum_by (λ h. length h.alive) hs

-- a table, all of whose rows are alive
abbrev pub all_alive : Table → HeldTable
all_alive t = record { table = t; alive = range_with_len 0 t.row_count }

-- the table of a file, with all rows alive
abbrev pub whole_file : List ℕ → Result HeldTable Refusal
whole_file bytes = or_refuse (table_of bytes) invalid_data >>= λ table. Ok (all_alive table)

-- The table of a file to be added to others, with all rows alive. InvalidData where the bytes
-- stand for none, TooLarge where more rows would be alive than 32 bits count.
unfoldable pub added_file : List ℕ → List HeldTable → Result HeldTable Refusal
added_file bytes hs = do
  h ← whole_file bytes
  _ ← refuse_if (nat_le (2 ^ 32) (alive_count hs + length h.alive)) too_large
  Ok h

-- the tables with one more behind them
abbrev pub with_more : List HeldTable → HeldTable → Result (List HeldTable) Refusal
with_more hs h = Ok (hs ++ h ∷ [])

-- a file behind the others
abbrev pub appended : List ℕ → List HeldTable → Result (List HeldTable) Refusal
appended bytes hs = added_file bytes hs >>= with_more hs

-- The tables without the rows at the places that are named; the rows of all are counted one after
-- another.
abbrev pub without : List ℕ → ℕ → List HeldTable → List HeldTable
without ids place [] = []
without ids place (h ∷ hs) =
    record { table = h.table; alive = rows_without ids place h.alive }
    ∷ without ids (place + length h.alive) hs

-- The rows at these places are alive no more. BadOrder where they don't ascend strictly, or one
-- isn't a place.
abbrev pub dropped : List ℕ → List HeldTable → Result (List HeldTable) Refusal
dropped ids hs =
    refuse_if (not (are_places 0 (alive_count hs) ids)) bad_order >>= λ _. Ok (without ids 0 hs)

-- the same for the ids that bytes spell; InvalidData where they spell none
abbrev pub spelled_dropped : List ℕ → List HeldTable → Result (List HeldTable) Refusal
spelled_dropped bytes hs = or_refuse (row_ids bytes) invalid_data >>= λ ids. dropped ids hs

-- What a change makes of the tables: 0 is a file behind the others, 1 places whose rows are
-- dropped, 2 a file in place of all. InvalidData where it is of no such kind.
abbrev pub changed : ℕ → List ℕ → List HeldTable → Result (List HeldTable) Refusal
changed kind bytes hs =
    if kind == 0 then appended bytes hs
    else if kind == 1 then spelled_dropped bytes hs
    else if kind == 2 then appended bytes []
    else Err invalid_data
