-- The forms of fields. States docs/RULES.md, Documents.
use Rattle.std.specs.Prelude.{ℕ, List, find, bytes_eq, Option, Some, None, String, string_bytes}
use Rattle.std.specs.declared.alloc.Global.{Global}
use Rattle.col_documents.specs.declared.form.Form.{Form}
use Rattle.col_documents.specs.declared.form.Form.TheVariants.{Plain}

-- the forms that are given, by the paths of their fields
abbrev pub Forms : Type 0
Forms = List (List ℕ × Form)

-- a path and its form
abbrev pub named_form : String Global × Form → List ℕ × Form
named_form p = (string_bytes p.0, p.1)

-- the form that was found, else plain
abbrev pub found_form : Option (List ℕ × Form) → Form
found_form (Some p) = p.1
found_form None = Plain

-- the form of a field: the first that is given for its path, else plain
abbrev pub form_of : Forms → List ℕ → Form
form_of forms path = found_form (find (λ p. bytes_eq p.0 path) forms)
