use Rattle.std.proofs.Common.{◌≡◌, ◌++◌, List, ℕ, take}
use Rattle.std.specs.List.{AllZip}
use Rattle.col_model.specs.Category.{slot_of}
use Rattle.col_model.specs.ColumnType.{ColumnType}
use Rattle.col_questions.specs.Steps.{end_of}
use Rattle.col_segments.specs.Found.{HasColumn, places_between}
use Rattle.col_segments.specs.Live.{live}
use Rattle.col_segments.proofs.FindsLemmas.{IsUpto}
use Rattle.col_segments.proofs.ReaderLemmas.{kept_tables}
use Rattle.col_segments.proofs.finding.push_found.Given as goal

abbrev pub invariant-loop-place : goal.invariant-loop-place
invariant-loop-place l = IsUpto l.held l.place l.first l.next
    × ((name : List ℕ) (t : ColumnType) → AllZip (HasColumn (slot_of name t)) (kept_tables l.held) l.columns
    → l.places.items ≡ l.fn.places.items ++ places_between name t (end_of l.lo) (end_of l.hi) (live (take l.place l.held)))
