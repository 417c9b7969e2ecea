-- Fields that are put behind others.
use Rattle.std.proofs.Common.{◌≡◌, List, [], ◌∷◌, ◌++◌, map, Result, Ok, String, Global, string_bytes, subst, ap, ◌∙◌}
use Rattle.std.proofs.lemmas.List.{map-append}
use Rattle.col_questions.specs.Values.{typed_cell}
use Rattle.col_questions.specs.declared.value.TypedValue.{TypedValue}
use Rattle.col_documents.specs.Documents.{Field, field_of}
use Rattle.col_documents.specs.Read.{field_read}
use Rattle.col_documents.specs.Values.{GivesValue, Taken}
use Rattle.col_documents.specs.declared.field.Field as fields
use Rattle.col_documents.specs.declared.refusal.ValueError.{ValueError}

-- a value that was taken, as a field
pub field_put : (path : String Global) (value : TypedValue) (taken : Result TypedValue ValueError) (old new : List fields.Field)
    → taken ≡ Ok value → new ≡ old ++ record { path = path; value = value } ∷ []
    → (expected : Taken) → GivesValue typed_cell taken expected
    → (fs : List Field) × (field_of (string_bytes path) expected ≡ Ok fs) × (map field_read new ≡ map field_read old ++ fs)
field_put path value taken old new is put expected gives =
    let f : fields.Field = record { path = path; value = value } in
    let said : expected ≡ Ok (typed_cell value) = subst (λ t. GivesValue typed_cell t expected) is gives in
    (field_read f ∷ [], ap (field_of (string_bytes path)) said, ap (map field_read) put ∙ map-append field_read old (f ∷ []))
