-- What reading the first record leaves.
use Rattle.std.specs.Prelude.{◌≡◌, ◌∷◌, ℕ, List, [], map, Vec, Option, Some, None, Ok, Err}
use Rattle.std.specs.declared.alloc.Global.{Global}
use Rattle.col_documents.specs.Documents.{Refusal}
use Rattle.col_documents.specs.Forms.{Forms}
use Rattle.col_documents.specs.Read.{refusal_read}
use Rattle.col_load.specs.declared.load_error.LoadError.{LoadError}
use Rattle.col_load.specs.declared.load_error.LoadError.TheVariants.{OutOfMemory, BadLine, TooMany, Columnar}
use Rattle.col_load_csv.specs.Columns.{CsvColumn, columns_of}
use Rattle.col_load_csv.specs.Documents.{decided, header_number, text_records}
use Rattle.col_load_csv.specs.Read.{column_read}
use Rattle.col_load_csv.specs.declared.column.Column.{Column}

-- The columns are those that the first record names, with the kinds of their fields.
pub record HasColumns (forms : Forms) (text : List ℕ) (found : List Column) : Type 0 where
  pub names : List (List ℕ)
  pub rows : List (List (List ℕ))
  pub columns : List CsvColumn
  pub records : text_records text ≡ names ∷ rows
  pub named : columns_of forms names ≡ Ok columns
  pub kinds : map column_read found ≡ decided columns rows

-- The columns were found, or the text has no record.
abbrev pub HasHeader : Forms → List ℕ → Option (Vec Column Global) → Type 0
HasHeader forms text (Some found) = HasColumns forms text found.items
HasHeader forms text None = text_records text ≡ []

-- The first record is refused.
pub record IsBadHeader (forms : Forms) (text : List ℕ) (refusal : Refusal) : Type 0 where
  pub names : List (List ℕ)
  pub rows : List (List (List ℕ))
  pub records : text_records text ≡ names ∷ rows
  pub refused : columns_of forms names ≡ Err refusal

-- the error is the refusal of the first record, or memory was wanting
abbrev pub IsHeaderStop : Forms → List ℕ → LoadError → Type 0
IsHeaderStop forms text OutOfMemory = Unit {0}
IsHeaderStop forms text (BadLine number refusal) =
    (number ≡ header_number) × IsBadHeader forms text (refusal_read refusal)
IsHeaderStop forms text TooMany = ⊥
IsHeaderStop forms text (Columnar e) = ⊥
