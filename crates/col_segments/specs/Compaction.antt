-- What making segments one table answers.
use Rattle.std.specs.Prelude.{◌≡◌, ◌⊎◌, ◌<◌, ℕ, List, [], ◌∷◌, Result, Ok, Err, IfOk, IfErr}
use Rattle.std.specs.List.{AllByRecursion}
use Rattle.col_common.specs.declared.error.ColumnarError.{ColumnarError}
use Rattle.col_common.specs.declared.error.ColumnarError.TheVariants.{OutOfMemory, NumericalConflict, TooLarge}
use Rattle.col_model.specs.File.{StandsFor}
use Rattle.col_model.specs.Refusal.{Refusal, numerical_conflict, too_large}
use Rattle.col_model.specs.Table.{Table}
use Rattle.col_segments.specs.Live.{compacted, merged_alive}
use Rattle.col_segments.specs.Segments.{HeldTable, all_alive}

-- the rows that are alive are rows of the table
abbrev pub HasItsRows : HeldTable → Type 0
HasItsRows h = AllByRecursion (λ row. row < h.table.row_count) h.alive

-- some numbers have no common type, or a column is too large
abbrev pub IsCompactRefusal : Refusal → Type 0
IsCompactRefusal r = (r ≡ numerical_conflict) ⊎ (r ≡ too_large)

-- Nothing else refuses a compaction of these tables.
abbrev pub CompactsOrConflicts : List HeldTable → Type 0
CompactsOrConflicts hs = (r : Refusal) → compacted hs ≡ Err r → IsCompactRefusal r

-- Why a merge of rows that are there refuses: want of memory, or one of the two refusals, just
-- where it is expected.
abbrev pub RefusesRows : Result Table Refusal → ColumnarError → Type 0
RefusesRows expected e = (e ≡ OutOfMemory)
    ⊎ (((e ≡ NumericalConflict) × (expected ≡ Err numerical_conflict))
    ⊎ ((e ≡ TooLarge) × (expected ≡ Err too_large)))

-- What was made is a file of the table that is expected; a refusal is one of those.
pub record MergesRows (result : Result (List ℕ) ColumnarError) (expected : Result Table Refusal)
    : Type 0 where
  pub ok : IfOk result (λ file. (t : Table) × (expected ≡ Ok t) × StandsFor t file)
  pub refused : IfErr result (RefusesRows expected)

-- a file of the rows alive, which are one table now
pub record CompactsTo (old new : List HeldTable) (file : List ℕ) : Type 0 where
  pub table : Table
  pub is : merged_alive old ≡ Ok table
  pub stands : StandsFor table file
  pub held : new ≡ all_alive table ∷ []
