-- Items and members as the parts of a value.
use Rattle.std.proofs.Common.{Ok, ◌∙◌, ◌≡◌, ℕ, List, [], ◌∷◌, ◌++◌, map, Bor, Global, refl, ap}
use Rattle.json.specs.Value.{value_view, items_view, members_view}
use Rattle.json.specs.declared.value.Value.{Value}
use Rattle.col_documents.specs.Documents.{Field, Fields, both, item_fields, items_fields, value_fields, members_fields, if_name}
use Rattle.col_documents.specs.Forms.{Forms}
use Rattle.col_documents.specs.Read.{field_read}
use Rattle.col_documents.specs.declared.field.Field as fields
use Rattle.col_documents.specs.declared.form.Form.{Form}
use Rattle.col_documents.proofs.JoinedLemmas.{joined}

-- the fields of an item
abbrev pub item_part : Form → List ℕ → Value Global → Fields
item_part form path v = item_fields form path (value_view v)

-- the fields of a member
abbrev pub member_part : Forms → List ℕ → Bor (List ℕ) × Value Global → Fields
member_part forms front m =
    if_name m.0.now (front ++ m.0.now) (value_fields forms (front ++ m.0.now) (value_view m.1))

-- fields were put behind others
abbrev pub IsPut : List fields.Field → List fields.Field → Fields → Type 0
IsPut old new expected = (fs : List Field) × (expected ≡ Ok fs) × (map field_read new ≡ map field_read old ++ fs)

items-joined : (form : Form) (path : List ℕ) (vs : List (Value Global))
    → joined (map (item_part form path) vs) ≡ items_fields form path (items_view vs)
items-joined form path [] = refl
items-joined form path (v ∷ vs) = ap (both (item_part form path v)) (items-joined form path vs)

-- the items of a slice
pub items_read : (form : Form) (path : List ℕ) (vs ws : List (Value Global)) → vs ≡ ws
    → joined (map (item_part form path) vs) ≡ items_fields form path (items_view ws)
items_read form path vs ws same =
    items-joined form path vs ∙ ap (λ (vs : List (Value Global)). items_fields form path (items_view vs)) same

members-joined : (forms : Forms) (front : List ℕ) (ms : List (Bor (List ℕ) × Value Global))
    → joined (map (member_part forms front) ms) ≡ members_fields forms front (members_view ms)
members-joined forms front [] = refl
members-joined forms front (m ∷ ms) = ap (both (member_part forms front m)) (members-joined forms front ms)

-- the members of a slice
pub members_read : (forms : Forms) (front : List ℕ) (ms ns : List (Bor (List ℕ) × Value Global)) → ms ≡ ns
    → joined (map (member_part forms front) ms) ≡ members_fields forms front (members_view ns)
members_read forms front ms ns same =
    members-joined forms front ms
    ∙ ap (λ (ms : List (Bor (List ℕ) × Value Global)). members_fields forms front (members_view ms)) same
