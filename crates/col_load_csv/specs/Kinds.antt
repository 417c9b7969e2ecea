-- The kinds of columns without a form, by the texts in their fields. States docs/RULES.md,
-- Documents.
use Rattle.std.specs.Prelude.{ℕ, ◌==◌, ◌&&◌, ◌||◌, not, Bool, true, false, List, [], ◌∷◌, is_some, Option, Some, None, Ok, if◌then◌else◌}
use Rattle.std.specs.Char.{is_ascii_digit}
use Rattle.std.specs.List.{list_all}
use Rattle.std.specs.Str.{is_utf8}
use Rattle.json.specs.Ascii as ascii
use Rattle.json.specs.Word.{after_number}
use Rattle.col_csv.specs.CsvTable.{value_of_text}
use Rattle.col_model.specs.ColumnType.{ColumnType}
use Rattle.col_model.specs.ColumnType as types
use Rattle.col_model.specs.Table.{Cell}
use Rattle.col_model.specs.Table as cells
use Rattle.col_documents.specs.Scalars.{number_in}
use Rattle.col_documents.specs.Values.{Taken}
use Rattle.col_documents.specs.declared.form.Form.TheVariants.{Plain}
use Rattle.col_load_csv.specs.declared.kind.Kind.{Kind}
use Rattle.col_load_csv.specs.declared.kind.Kind.TheVariants.{Signed, Unsigned, Fractions, Flags, Texts}

-- a text is that of a value of a type, in the one form that it is written in
abbrev pub is_text_of : ColumnType → List ℕ → Bool
is_text_of t s = is_some (value_of_text t s)

-- each text is
abbrev pub are_texts_of : ColumnType → List (List ℕ) → Bool
are_texts_of t texts = list_all (is_text_of t) texts

-- nothing is left
abbrev pub is_spent : Option (List ℕ) → Bool
is_spent None = false
is_spent (Some []) = true
is_spent (Some (b ∷ bs)) = false

-- a text is a number as JSON writes it
abbrev pub is_number : List ℕ → Bool
is_number s = is_utf8 s && is_spent (after_number s)

-- nothing but digits and minuses stands in it
abbrev pub is_whole : List ℕ → Bool
is_whole s = list_all (λ b. is_ascii_digit b || b == ascii.minus) s

-- the texts are numbers, not all of them whole
abbrev pub are_fractions : List (List ℕ) → Bool
are_fractions texts = list_all is_number texts && not (list_all is_whole texts)

-- the kind of a column with these texts in its fields: whole numbers, if one type holds them all,
-- else numbers with fractions, else flags, else texts
abbrev pub kind_of : List (List ℕ) → Kind
kind_of texts =
    if are_texts_of types.i64 texts then Signed
    else if are_texts_of types.u64 texts then Unsigned
    else if are_fractions texts then Fractions
    else if are_texts_of types.bool texts then Flags
    else Texts

-- the value of a type, or else a text
abbrev pub value_or_text : ColumnType → List ℕ → Option Cell → ColumnType × Cell
value_or_text t s (Some cell) = (t, cell)
value_or_text t s None = (types.str, cells.text s)

-- what a text is in a column of a kind: among fractions it is read as a number of a document, which
-- is whole
abbrev pub value_in : Kind → List ℕ → Taken
value_in Signed s = Ok (value_or_text types.i64 s (value_of_text types.i64 s))
value_in Unsigned s = Ok (value_or_text types.u64 s (value_of_text types.u64 s))
value_in Fractions s = number_in Plain s
value_in Flags s = Ok (value_or_text types.bool s (value_of_text types.bool s))
value_in Texts s = Ok (types.str, cells.text s)
