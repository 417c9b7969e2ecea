-- The columns of CSV documents, and their fields in a record. States docs/RULES.md, Documents.
use Rattle.std.specs.Prelude.{ℕ, ◌==◌, List, [], ◌∷◌, map, length, Result, Ok, Err, if◌then◌else◌}
use Rattle.std.specs.List.{list_all, zip}
use Rattle.std.specs.Str.{is_utf8}
use Rattle.col_documents.specs.Documents.{Fields, Refusal, both, field_of, refused}
use Rattle.col_documents.specs.Forms.{Forms, form_of}
use Rattle.col_documents.specs.Scalars.{number_in, text_in}
use Rattle.col_documents.specs.Values.{Taken}
use Rattle.col_documents.specs.declared.form.Form.{Form}
use Rattle.col_documents.specs.declared.form.Form.TheVariants.{Plain, Date, Millis, Address, Digits, Decimal}
use Rattle.col_documents.specs.declared.refusal.Reason.TheVariants as reasons
use Rattle.col_model.specs.Keys.{is_name}
use Rattle.col_load_csv.specs.Kinds.{value_in}
use Rattle.col_load_csv.specs.declared.kind.Kind.{Kind}
use Rattle.col_load_csv.specs.declared.kind.Kind.TheVariants.{Texts}

-- a column: how its fields are read, by its form, or without one by its kind
pub record CsvColumn : Type 0 where
  pub name : List ℕ
  pub form : Form
  pub kind : Kind

-- ---- the first record

-- the column of a heading, before its fields are seen
abbrev pub column_of : Forms → List ℕ → CsvColumn
column_of forms name = record { name = name; form = form_of forms name; kind = Texts }

-- why headings aren't taken
abbrev pub bad_header : Refusal
bad_header = record { path = []; reason = reasons.Name }

-- the columns of headings, of which each is a name
abbrev pub columns_of : Forms → List (List ℕ) → Result (List CsvColumn) Refusal
columns_of forms names =
    if list_all is_name names then Ok (map (column_of forms) names) else Err bad_header

-- ---- the others

-- what a text is in a form, or without one in a kind
abbrev pub taken_by : Form → Kind → List ℕ → Taken
taken_by Plain kind s = value_in kind s
taken_by (Decimal scale) kind s = number_in (Decimal scale) s
taken_by Millis kind s = number_in Millis s
taken_by Date kind s = text_in Date s
taken_by Address kind s = text_in Address s
taken_by Digits kind s = text_in Digits s

-- the same of bytes, which have to be a text
abbrev pub text_taken : Form → Kind → List ℕ → Taken
text_taken form kind s = if is_utf8 s then taken_by form kind s else Err reasons.Text

-- the value of a field in its column: none where it is empty
abbrev pub column_field : CsvColumn → List ℕ → Fields
column_field column [] = Ok []
column_field column (b ∷ bs) =
    field_of column.name (text_taken column.form column.kind (b ∷ bs))

-- the values of fields, each in its column
abbrev pub column_fields : List (CsvColumn × List ℕ) → Fields
column_fields [] = Ok []
column_fields (p ∷ ps) = both (column_field p.0 p.1) (column_fields ps)

-- the document of a record, which has as many fields as there are columns
abbrev pub document_of : List CsvColumn → List (List ℕ) → Fields
document_of columns fields =
    if length fields == length columns then column_fields (zip columns fields)
    else refused [] reasons.Width
