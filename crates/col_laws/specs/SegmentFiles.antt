-- Files that are made in a bracketing. States docs/RULES.md, Segments.
use Rattle.std.specs.Prelude.{◌≡◌, ℕ, List, [], ◌∷◌, Some, Result, Ok, IsOk}
use Rattle.col_model.specs.Table.{Table}
use Rattle.col_model.specs.File.{Part, parts_of, table_of, StandsFor}
use Rattle.col_model.specs.Order.{stack}
use Rattle.col_model.specs.Merge.{merged, row_counts}
use Rattle.col_model.specs.Refusal.{Refusal, ◌>>=◌, or_refuse, each_ok, invalid_data}
use Rattle.col_model.specs.Stacking.{Bracketing, nothing, item, bracket}

-- the table of a file
abbrev pub file_table : List ℕ → Result Table Refusal
file_table file = or_refuse (table_of file) invalid_data

-- the parts of files
abbrev pub parts_in : List (List ℕ) → Result (List Part) Refusal
parts_in files = each_ok (λ file. or_refuse (parts_of file) invalid_data) files

-- the table of merging files, segment after segment and without required columns
abbrev pub stacked_files : List (List ℕ) → Result Table Refusal
stacked_files files =
    parts_in files >>= λ parts. merged parts [] (stack (row_counts parts))

-- a file of the table that is expected, of any version
pub record HasTable (expected : Result Table Refusal) (file : List ℕ) : Type 0 where
  pub table : Table
  pub is : expected ≡ Ok table
  pub content : table_of file ≡ Some table

-- a file of the table that is expected, of the version that is written
pub record IsFileOf (expected : Result Table Refusal) (file : List ℕ) : Type 0 where
  pub table : Table
  pub is : expected ≡ Ok table
  pub stands : StandsFor table file

-- Files made in a bracketing: for each item a file of its table, and for each bracket the merged
-- file of those made of what stands in it.
pub data AreMade {A : Type 0} (table : A → Result Table Refusal)
    : Bracketing A → List (List ℕ) → Type 0 where
  none : AreMade table nothing []
  of_item : {x : A} {rest : Bracketing A} {file : List ℕ} {files : List (List ℕ)}
      → HasTable (table x) file → AreMade table rest files
      → AreMade table (item x rest) (file ∷ files)
  of_bracket : {inner rest : Bracketing A} {own : List (List ℕ)} {file : List ℕ}
      {files : List (List ℕ)} → AreMade table inner own → IsFileOf (stacked_files own) file
      → AreMade table rest files → AreMade table (bracket inner rest) (file ∷ files)

-- the merged file of the files made in a bracketing (as made_in_brackets of FileBracketings)
pub record IsMadeBy {A : Type 0} (table : A → Result Table Refusal) (b : Bracketing A)
    (file : List ℕ) : Type 0 where
  pub files : List (List ℕ)
  pub made : AreMade table b files
  pub is : IsFileOf (stacked_files files) file

-- whichever files are made in a bracketing, they merge
abbrev pub Merges : {A : Type 0} → (A → Result Table Refusal) → Bracketing A → Type 0
Merges table b = (files : List (List ℕ)) → AreMade table b files → IsOk (stacked_files files)

-- no step in the brackets refuses: each item has its table, and what stands in a bracket merges
abbrev pub GoesThrough : {A : Type 0} → (A → Result Table Refusal) → Bracketing A → Type 0
GoesThrough table nothing = Unit {0}
GoesThrough table (item x rest) = IsOk (table x) × GoesThrough table rest
GoesThrough table (bracket inner rest) =
    GoesThrough table inner × Merges table inner × GoesThrough table rest

-- No step refuses, the last merge neither.
pub record RefusesNothing {A : Type 0} (table : A → Result Table Refusal) (b : Bracketing A)
    : Type 0 where
  pub within : GoesThrough table b
  pub last : Merges table b
