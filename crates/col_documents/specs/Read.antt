-- What reading a document gives.
use Rattle.std.specs.Prelude.{◌≡◌, List, ◌++◌, map, string_bytes, Vec, Result, Ok, Err}
use Rattle.std.specs.declared.alloc.Global.{Global}
use Rattle.col_questions.specs.Values.{typed_cell}
use Rattle.col_documents.specs.Documents.{Field, Refusal, Fields}
use Rattle.col_documents.specs.declared.field.Field as fields
use Rattle.col_documents.specs.declared.refusal.Refusal as refusals
use Rattle.col_documents.specs.declared.refusal.DocumentError.{DocumentError}
use Rattle.col_documents.specs.declared.refusal.DocumentError.TheVariants.{OutOfMemory, Refused}

-- the field
abbrev pub field_read : fields.Field → Field
field_read f = record {
  path = string_bytes f.path;
  column_type = (typed_cell f.value).0;
  cell = (typed_cell f.value).1;
}

-- the refusal
abbrev pub refusal_read : refusals.Refusal → Refusal
refusal_read r = record { path = string_bytes r.path; reason = r.reason }

-- the refusal is the one that is expected, or memory was wanting
abbrev pub IsRefusedAs : DocumentError → Fields → Type 0
IsRefusedAs OutOfMemory expected = Unit {0}
IsRefusedAs (Refused r) expected = expected ≡ Err (refusal_read r)

-- Ok has put the fields that are expected behind others.
abbrev pub PutsFields : List fields.Field → List fields.Field → Result (Unit {0}) DocumentError
    → Fields → Type 0
PutsFields old new (Ok done) expected =
    (fs : List Field) × (expected ≡ Ok fs) × (map field_read new ≡ map field_read old ++ fs)
PutsFields old new (Err e) expected = IsRefusedAs e expected

-- Ok has the fields that are expected.
abbrev pub ReadsFields : Result (Vec fields.Field Global) DocumentError → Fields → Type 0
ReadsFields (Ok found) expected = expected ≡ Ok (map field_read found.items)
ReadsFields (Err e) expected = IsRefusedAs e expected
