-- What was recorded of documents.
use Rattle.std.specs.Prelude.{◌≡◌, ◌≤◌, min, nat_lt, List, [], length, Option, Some, None, Ok, Err}
use Rattle.col_common.specs.declared.error.ColumnarError.{ColumnarError}
use Rattle.col_model.specs.Recording.{Call, content_after_all}
use Rattle.col_model.specs.Refusal.{Refusal}
use Rattle.col_model.specs.Written.{Recorded}
use Rattle.col_writer_columns.specs.Answers.{answer_of}
use Rattle.col_load.specs.Loads.{Document, calls_from, max_documents}
use Rattle.col_load.specs.declared.rows.Rows.{Rows}

-- All calls were made, or one was refused.
abbrev pub IsRecorded : Recorded → Recorded → Option ColumnarError → List Call → Type 0
IsRecorded old new None calls = content_after_all old calls ≡ Ok new
IsRecorded old new (Some e) calls =
    (refusal : Refusal) × (content_after_all old calls ≡ Err refusal) × (e ≡ answer_of refusal)

-- These documents were taken.
pub record HasDocuments (docs : List Document) (rows : Rows) : Type 0 where
  pub full : rows.too_many ≡ nat_lt max_documents (length docs)
  pub count : rows.num_docs ≡ min (length docs) max_documents
  pub content : length docs ≤ max_documents
      → IsRecorded [] rows.columns rows.refusal (calls_from 0 docs)
