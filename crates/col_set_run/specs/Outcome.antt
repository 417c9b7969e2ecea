-- What the steps of a set's script come to. States docs/RULES.md, Scripts of a set.
use Rattle.std.specs.Prelude.{ℕ, ◌+◌, ◌^◌, nat_le, List, [], ◌∷◌, ◌++◌, map, codes, Result, Ok, Err}
use Rattle.serde_json.specs.Data.{Data, string}
use Rattle.col_model.specs.ColumnType.{ColumnType, type_name}
use Rattle.col_model.specs.Refusal.{Refusal, ◌>>=◌, refuse_if, too_large}
use Rattle.col_model.specs.Table.{Table}
use Rattle.col_program.specs.Outcome.{segment_table}
use Rattle.col_program.specs.Queries.{end_of_cell}
use Rattle.col_program.specs.Report.{list_data, count_data}
use Rattle.col_program.specs.Script.{Segment}
use Rattle.col_set.specs.Found.{places_between}
use Rattle.col_set.specs.Live.{compacted, live, merged_alive}
use Rattle.col_set.specs.Segments.{HeldTable, alive_count, all_alive, dropped}
use Rattle.col_set_script.specs.SetScripts.{Lookup, SetStep, add, drop_rows, merge_all, find_rows}

-- the tables with one more behind them, all of whose rows are alive
abbrev pub with_table : List HeldTable → Table → Result (List HeldTable) Refusal
with_table hs t = do
  _ ← refuse_if (nat_le (2 ^ 32) (alive_count hs + t.row_count)) too_large
  Ok (hs ++ all_alive t ∷ [])

-- the same of the table of a segment
abbrev pub with_segment : Segment → List HeldTable → Result (List HeldTable) Refusal
with_segment s hs = segment_table s >>= with_table hs

-- what a step makes of the tables, or its refusal
abbrev pub after_step : SetStep → List HeldTable → Result (List HeldTable) Refusal
after_step (add s) hs = with_segment s hs
after_step (drop_rows ids) hs = dropped ids hs
after_step merge_all hs = compacted hs
after_step (find_rows l) hs = Ok hs

-- the tables behind the steps, or the first refusal
abbrev pub reached : List HeldTable → List SetStep → Result (List HeldTable) Refusal
reached hs [] = Ok hs
reached hs (x ∷ xs) = after_step x hs >>= λ next. reached next xs

-- the table that the set is made in the end, or the first refusal
abbrev pub final_table : List HeldTable → List SetStep → Result Table Refusal
final_table hs xs = reached hs xs >>= merged_alive

-- what comes of the tables, where there are some
abbrev pub of_tables : {A : Type 0} → A → Result (List HeldTable) Refusal → (List HeldTable → A) → A
of_tables otherwise (Ok hs) f = f hs
of_tables otherwise (Err refusal) f = otherwise

-- the tables before the first step that is refused, or behind all
abbrev pub held_before : List HeldTable → List SetStep → List HeldTable
held_before hs [] = hs
held_before hs (x ∷ xs) = of_tables hs (after_step x hs) (λ next. held_before next xs)

-- ---- lookups

-- ["find",name,t,[ids]]
abbrev pub found_line : List ℕ → ColumnType → List ℕ → Data
found_line name t places = list_data (string (codes "find") ∷ string name
    ∷ string (type_name t) ∷ list_data (map count_data places) ∷ [])

-- the line of a lookup in these tables
abbrev pub line_of : Lookup → List HeldTable → Data
line_of l hs = found_line l.name l.column_type (places_between l.name l.column_type
    (end_of_cell l.column_type l.lo) (end_of_cell l.column_type l.hi) (live hs))

-- the line of a step, if it is a lookup
abbrev pub step_lines : SetStep → List HeldTable → List Data
step_lines (find_rows l) hs = line_of l hs ∷ []
step_lines (add s) hs = []
step_lines (drop_rows ids) hs = []
step_lines merge_all hs = []

-- the lines of the lookups among steps, each over the tables that it finds
abbrev pub found_lines : List HeldTable → List SetStep → List Data
found_lines hs [] = []
found_lines hs (x ∷ xs) =
    step_lines x hs ++ of_tables [] (after_step x hs) (λ next. found_lines next xs)
