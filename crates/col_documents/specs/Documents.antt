-- Documents: objects in JSON as fields with values, each under its path. States docs/RULES.md,
-- Documents.
use Rattle.std.specs.Prelude.{ℕ, List, [], ◌∷◌, ◌++◌, Option, Some, None, Result, Ok, Err, option_and_then, if◌then◌else◌}
use Rattle.std.specs.Str.{is_utf8}
use Rattle.json.specs.Json.{Json, null, boolean, number, string, array, object, Items, no_items, item, Members, no_members, member, document}
use Rattle.col_common.specs.Reading.{only_if}
use Rattle.col_model.specs.ColumnType.{ColumnType}
use Rattle.col_model.specs.Table.{Cell}
use Rattle.col_model.specs.Written.{has_zero}
use Rattle.col_documents.specs.Forms.{Forms, form_of}
use Rattle.col_documents.specs.Scalars.{number_in, text_in, flag_in}
use Rattle.col_documents.specs.Values.{Taken}
use Rattle.col_documents.specs.declared.form.Form.{Form}
use Rattle.col_documents.specs.declared.refusal.Reason.{Reason}
use Rattle.col_documents.specs.declared.refusal.Reason.TheVariants as reasons

-- a value of a document: the path of its field, its type, its cell
pub record Field : Type 0 where
  pub path : List ℕ
  pub column_type : ColumnType
  pub cell : Cell

-- why a document isn't taken, and the path of the field
pub record Refusal : Type 0 where
  pub path : List ℕ
  pub reason : Reason

-- fields in order, or the first refusal
abbrev pub Fields : Type 0
Fields = Result (List Field) Refusal

-- a refusal at a path
abbrev pub refused : List ℕ → Reason → Fields
refused path reason = Err (record { path = path; reason = reason })

-- the fields of one part and then of another, or the first refusal
abbrev pub both : Fields → Fields → Fields
both (Ok fs) (Ok gs) = Ok (fs ++ gs)
both (Ok fs) (Err e) = Err e
both (Err e) others = Err e

-- the field of a value at a path
abbrev pub field_of : List ℕ → Taken → Fields
field_of path (Ok (t, cell)) = Ok (record { path = path; column_type = t; cell = cell } ∷ [])
field_of path (Err reason) = refused path reason

-- the fields at a path, whose last name has no zero byte
abbrev pub if_name : List ℕ → List ℕ → Fields → Fields
if_name name path fs = if has_zero name then refused path reasons.Name else fs

-- what stands behind a path in front of the names below it
abbrev pub separator : ℕ
separator = 1

-- the path of what stands below a path
abbrev pub inside : List ℕ → List ℕ
inside path = path ++ separator ∷ []

-- the field of an item of an array: none of null
abbrev pub item_fields : Form → List ℕ → Json → Fields
item_fields form path null = Ok []
item_fields form path (boolean b) = field_of path (flag_in form b)
item_fields form path (number s) = field_of path (number_in form s)
item_fields form path (string s) = field_of path (text_in form s)
item_fields form path (array js) = refused path reasons.Nested
item_fields form path (object ms) = refused path reasons.Nested

-- the fields of the items of an array, all at one path
abbrev pub items_fields : Form → List ℕ → Items → Fields
items_fields form path no_items = Ok []
items_fields form path (item j js) = both (item_fields form path j) (items_fields form path js)

-- the fields of a value at a path: an array has its items' fields, an object those of its members,
-- whose names, without a zero byte, stand behind the path
abbrev mutual
  pub value_fields : Forms → List ℕ → Json → Fields
  value_fields forms path null = Ok []
  value_fields forms path (boolean b) = item_fields (form_of forms path) path (boolean b)
  value_fields forms path (number s) = item_fields (form_of forms path) path (number s)
  value_fields forms path (string s) = item_fields (form_of forms path) path (string s)
  value_fields forms path (array js) = items_fields (form_of forms path) path js
  value_fields forms path (object ms) = members_fields forms (inside path) ms

  pub members_fields : Forms → List ℕ → Members → Fields
  members_fields forms front no_members = Ok []
  members_fields forms front (member name j ms) =
      both (if_name name (front ++ name) (value_fields forms (front ++ name) j))
      (members_fields forms front ms)

-- the fields of a JSON value that is a document
abbrev pub object_fields : Forms → Option Json → Fields
object_fields forms (Some (object ms)) = members_fields forms [] ms
object_fields forms (Some j) = refused [] reasons.Object
object_fields forms None = refused [] reasons.Json

-- The fields of the document that a line is.
unfoldable pub fields_of : Forms → List ℕ → Fields
fields_of forms line = object_fields forms (option_and_then document (only_if (is_utf8 line) line))
