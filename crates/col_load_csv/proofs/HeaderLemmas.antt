-- Headings that are taken one after another.
use Rattle.std.proofs.Common.{◌≡◌, ℕ, List, ◌++◌, drop, Result, Ok, Err}
use Rattle.col_documents.specs.Documents.{Refusal}
use Rattle.col_documents.specs.Forms.{Forms}
use Rattle.col_load_csv.specs.Columns.{CsvColumn, columns_of}

-- columns behind others, or a refusal
abbrev pub behind : List CsvColumn → Result (List CsvColumn) Refusal → Result (List CsvColumn) Refusal
behind columns (Ok more) = Ok (columns ++ more)
behind columns (Err refusal) = Err refusal

module _ (forms : Forms) (names : List (List ℕ)) where
  -- the columns of the headings that are left from a place on
  abbrev pub left : ℕ → Result (List CsvColumn) Refusal
  left place = columns_of forms (drop place names)

  -- the headings before a place are taken
  abbrev pub AreNamed : ℕ → List CsvColumn → Type 0
  AreNamed place columns = columns_of forms names ≡ behind columns (left place)
