-- Lookups whose ends are read together.
use Rattle.std.proofs.Common.{◌≡◌, ℕ, List, [], ◌∷◌, Option, Some, None, refl, sym, ◌∙◌, ap}
use Rattle.serde_json.specs.Data.{Data}
use Rattle.serde_json.specs.Find.{as_str}
use Rattle.col_common.specs.Reading.{◌>>=◌}
use Rattle.col_model.specs.ColumnType.{ColumnType}
use Rattle.col_model.specs.Table.{Cell}
use Rattle.col_program.specs.Values.{as_type, as_cell}
use Rattle.col_questions.specs.Values.{ends_as}
use Rattle.col_set_script.specs.SetScripts.{SetLine, look, look_line}

-- the lookup of these parts
abbrev look_of : List ℕ → ColumnType × Cell × Cell → SetLine
look_of name e = look (record { name = name; column_type = e.0; lo = e.1; hi = e.2 })

module _ (lo hi : Data) where
  -- what the parts come to
  abbrev found : Option (List ℕ) → Option ColumnType → Option SetLine
  found name type =
      name >>= λ name. type >>= λ t. as_cell t lo >>= λ l. as_cell t hi >>= λ h. Some (look_of name (t, l, h))

  by_ends : (name : List ℕ) (t : ColumnType) (o : Option (ColumnType × Cell × Cell)) → o ≡ ends_as t lo hi
      → found (Some name) (Some t) ≡ (o >>= λ e. Some (look_of name e))
  by_ends name t o e = go (as_cell t lo) (as_cell t hi) ∙ ap (λ o. o >>= λ e. Some (look_of name e)) (sym e)
    where
      go : (l h : Option Cell) → (l >>= λ l. h >>= λ h. Some (look_of name (t, l, h)))
          ≡ (l >>= (λ l. h >>= λ h. Some (t, l, h)) >>= λ e. Some (look_of name e))
      go None h = refl
      go (Some l) None = refl
      go (Some l) (Some h) = refl

-- a lookup whose parts are read is the line of these, where its ends are of the type
pub by_parts : (n t lo hi : Data) (name : List ℕ) (type : ColumnType) (o : Option (ColumnType × Cell × Cell))
    → Some name ≡ as_str n → Some type ≡ as_type t → o ≡ ends_as type lo hi
    → (o >>= λ e. Some (look_of name e)) ≡ look_line (n ∷ t ∷ lo ∷ hi ∷ [])
by_parts n t lo hi name type o en et e =
    sym (by_ends lo hi name type o e) ∙ ap (λ x. found lo hi x (Some type)) en ∙ ap (λ x. found lo hi (as_str n) x) et
