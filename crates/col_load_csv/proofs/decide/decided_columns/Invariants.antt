use Rattle.std.proofs.Common.{ℕ, List, map}
use Rattle.col_load_csv.specs.Documents.{decided_by}
use Rattle.col_load_csv.specs.Read.{column_read}
use Rattle.col_load_csv.specs.Sights.{AreSeenByName}
use Rattle.col_load_csv.proofs.PlaceLemmas.{AreMade}
use Rattle.col_load_csv.proofs.decide.decided_columns.Given as goal

-- the columns so far have their kinds
abbrev pub invariant-loop-column : goal.invariant-loop-column
invariant-loop-column l =
    (rows : List (List (List ℕ))) → AreSeenByName rows (map column_read l.columns) l.sights
    → AreMade column_read (λ c. decided_by (map column_read l.columns) rows (column_read c)) l.columns l.column-index l.kinds.items
