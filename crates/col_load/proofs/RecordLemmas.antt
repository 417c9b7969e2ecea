-- Fields that are recorded one after another.
use Rattle.std.proofs.Common.{ℕ, List, map, drop, Result}
use Rattle.col_model.specs.Recording.{content_after_all}
use Rattle.col_model.specs.Refusal.{Refusal}
use Rattle.col_model.specs.Written.{Recorded}
use Rattle.col_documents.specs.Read.{field_read}
use Rattle.col_documents.specs.declared.field.Field as fields
use Rattle.col_load.specs.Loads.{calls_at}

-- what the fields from a place on make of a content
abbrev pub rest_after : Recorded → ℕ → List fields.Field → ℕ → Result Recorded Refusal
rest_after w d fs i = content_after_all w (calls_at d (map field_read (drop i fs)))
