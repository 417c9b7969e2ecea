-- Forms that are looked for one after another.
use Rattle.std.proofs.Common.{◌≡◌, ◌+◌, ◌<◌, ◌≤◌, ℕ, zero, suc, Bool, true, false, List, [], ◌∷◌, map, drop, length, slice_index_or, bytes_eq, String, Global, string_bytes, refl, sym, ap, ◌∙◌, arith}
use Rattle.std.specs.Prelude.{if◌then◌else◌}
use Rattle.col_documents.specs.Forms.{form_of, named_form}
use Rattle.col_documents.specs.declared.form.Form.{Form}
use Rattle.col_documents.specs.declared.form.Form.TheVariants.{Plain}

-- the form of a path among those from a place on
abbrev pub form_from : List (String Global × Form) → ℕ → List ℕ → Form
form_from forms i path = form_of (map named_form (drop i forms)) path

-- the first has this path
first-is : (f : String Global × Form) (forms : List (String Global × Form)) (path : List ℕ) (b : Bool)
    → bytes_eq (string_bytes f.0) path ≡ b
    → form_of (map named_form (f ∷ forms)) path ≡ (if b then f.1 else form_of (map named_form forms) path)
first-is f forms path true is = rw is refl
first-is f forms path false is = rw is refl

-- the one at a place has this path
pub form_found : (forms : List (String Global × Form)) (i : ℕ) (f : String Global × Form) (path : List ℕ) → i < length forms
    → f ≡ slice_index_or forms i f → bytes_eq (string_bytes f.0) path ≡ true → f.1 ≡ form_from forms i path
form_found [] i f path h e is = absurd (omega arith)
form_found (x ∷ forms) zero f path h e is =
    ap (λ x. x.1) e ∙ sym (first-is x forms path true (ap (λ x. bytes_eq (string_bytes x.0) path) (sym e) ∙ is))
form_found (x ∷ forms) (suc i) f path h e is = form_found forms i f path (omega arith) e is

-- it has another one
passed : (forms : List (String Global × Form)) (i : ℕ) (f : String Global × Form) (path : List ℕ) → i < length forms
    → f ≡ slice_index_or forms i f → bytes_eq (string_bytes f.0) path ≡ false
    → form_from forms (suc i) path ≡ form_from forms i path
passed [] i f path h e is = absurd (omega arith)
passed (x ∷ forms) zero f path h e is =
    sym (first-is x forms path false (ap (λ x. bytes_eq (string_bytes x.0) path) (sym e) ∙ is))
passed (x ∷ forms) (suc i) f path h e is = passed forms i f path (omega arith) e is

pub form_passed : (forms : List (String Global × Form)) (i : ℕ) (f : String Global × Form) (path : List ℕ) → i < length forms
    → f ≡ slice_index_or forms i f → bytes_eq (string_bytes f.0) path ≡ false
    → form_from forms (i + 1) path ≡ form_from forms i path
form_passed forms i f path h e is =
    let next : i + 1 ≡ suc i = omega arith in
    ap (λ k. form_from forms k path) next ∙ passed forms i f path h e is

-- none is left
pub form_end : (forms : List (String Global × Form)) (i : ℕ) (path : List ℕ) → length forms ≤ i → Plain ≡ form_from forms i path
form_end [] zero path h = refl
form_end [] (suc i) path h = refl
form_end (x ∷ forms) zero path h = absurd (omega arith)
form_end (x ∷ forms) (suc i) path h = form_end forms i path (omega arith)
