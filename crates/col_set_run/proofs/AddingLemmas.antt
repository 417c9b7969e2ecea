-- The file of a segment, behind the tables of a set.
use Rattle.std.proofs.Common.{◌≡◌, ◌∙◌, ℕ, ◌+◌, ◌^◌, Bool, true, false, nat_le, List, [], ◌∷◌, ◌++◌, length, Option, Result, Ok, refl, sym, ap}
use Rattle.std.proofs.lemmas.List.FromFn.{length-range_with_len}
use Rattle.col_model.specs.File.{StandsFor}
use Rattle.col_model.specs.Refusal.{Refusal, ◌>>=◌, refuse_if, or_refuse, invalid_data, too_large}
use Rattle.col_model.specs.Table.{Table}
use Rattle.col_program.specs.Outcome.{segment_table}
use Rattle.col_program.specs.Script.{Segment}
use Rattle.col_set.specs.Segments.{HeldTable, added_file, alive_count, all_alive, appended, with_more}
use Rattle.col_set_run.specs.Outcome.{with_segment, with_table}

-- a file that stands for a table is added as the table is
pub appended-table : (t : Table) (file : List ℕ) (hs : List HeldTable) → StandsFor t file → appended file hs ≡ with_table hs t
unfolding added_file
appended-table t file hs stands =
    ap with_file stands.content ∙ ap with_count (length-range_with_len 0 t.row_count) ∙ by (nat_le (2 ^ 32) (alive_count hs + t.row_count))
  where
    with_file : Option Table → Result (List HeldTable) Refusal
    with_file o =
        ((or_refuse o invalid_data >>= λ table. Ok (all_alive table)) >>= λ h.
        refuse_if (nat_le (2 ^ 32) (alive_count hs + length h.alive)) too_large >>= λ _. Ok h) >>= with_more hs

    with_count : ℕ → Result (List HeldTable) Refusal
    with_count n = (refuse_if (nat_le (2 ^ 32) (alive_count hs + n)) too_large >>= λ _. Ok (all_alive t)) >>= with_more hs

    by : (b : Bool) → ((refuse_if b too_large >>= λ _. Ok (all_alive t)) >>= with_more hs)
        ≡ (refuse_if b too_large >>= λ _. Ok (hs ++ all_alive t ∷ []))
    by true = refl
    by false = refl

-- so is the file of a segment
pub appended-segment : (s : Segment) (t : Table) (file : List ℕ) (hs : List HeldTable) → segment_table s ≡ Ok t → StandsFor t file
    → appended file hs ≡ with_segment s hs
appended-segment s t file hs is stands = appended-table t file hs stands ∙ sym (ap (λ r. r >>= with_table hs) is)
