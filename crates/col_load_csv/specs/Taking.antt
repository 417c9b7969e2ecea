-- What taking records leaves.
use Rattle.std.specs.Prelude.{◌≡◌, ◌+◌, ℕ, Bool, List, ◌++◌, Result, Ok, if◌then◌else◌}
use Rattle.col_documents.specs.Documents.{Fields}
use Rattle.col_load.specs.Loads.{Document, Stop, document_in, is_refused}
use Rattle.col_load.specs.Rows.{HasDocuments}
use Rattle.col_load_csv.specs.declared.take.Taken.{Taken}

-- All documents that are expected were taken.
abbrev pub HasTaken : Result (List Document) Stop → Taken → Type 0
HasTaken expected taken =
    (docs : List Document) × (expected ≡ Ok docs) × HasDocuments docs taken.rows

-- how many of one record are bad
abbrev pub bad_count : Fields → ℕ
bad_count document = if is_refused document then 1 else 0

-- A record more was taken, which is this document, or is skipped.
pub record TakesRecord (old new : Taken) (skips : Bool) (document : Fields) : Type 0 where
  pub more : List Document
  pub read : document_in skips (old.counts.0 + 1) document ≡ Ok more
  pub rows : (docs : List Document) → HasDocuments docs old.rows
      → HasDocuments (docs ++ more) new.rows
  pub counts : new.counts ≡ (old.counts.0 + 1, old.counts.1 + bad_count document)
