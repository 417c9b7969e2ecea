-- Lookups whose ends are read last.
use Rattle.std.proofs.Common.{◌≡◌, ℕ, List, [], ◌∷◌, Option, Some, None, refl, sym, ◌∙◌, ap}
use Rattle.serde_json.specs.Data.{Data}
use Rattle.serde_json.specs.Find.{as_str}
use Rattle.col_common.specs.Reading.{◌>>=◌}
use Rattle.col_model.specs.ColumnType.{ColumnType}
use Rattle.col_model.specs.Table.{Cell}
use Rattle.col_program.specs.Script.{Line, ask, lookup, find_line}
use Rattle.col_program.specs.Values.{as_u32, as_type, as_cell}
use Rattle.col_questions.specs.Values.{ends_as}

none_of : {A B : Type 0} (o : Option A) (f : A → Option B) → ((x : A) → f x ≡ None) → (o >>= f) ≡ None
none_of None f h = refl
none_of (Some x) f h = h x

-- the lookup of these parts
abbrev lookup_of : List ℕ → ℕ → ℕ → ColumnType × Cell × Cell → Line
lookup_of name f g e = ask (lookup (record { name = name; column_type = e.0; lo = e.1; hi = e.2; from = f; to = g }))

module _ (lo hi : Data) where
  -- what the parts come to
  abbrev found : Option (List ℕ) → Option ColumnType → Option ℕ → Option ℕ → Option Line
  found name type from to =
      name >>= λ name. type >>= λ t. as_cell t lo >>= λ l. as_cell t hi >>= λ h. from >>= λ f. to >>= λ g.
      Some (lookup_of name f g (t, l, h))

  no_from : (name : Option (List ℕ)) (type : Option ColumnType) (to : Option ℕ) → found name type None to ≡ None
  no_from name type to = none_of name _ (λ name. none_of type _ (λ t. none_of (as_cell t lo) _ (λ l. none_of (as_cell t hi) _ (λ h. refl))))

  no_to : (name : Option (List ℕ)) (type : Option ColumnType) (from : Option ℕ) → found name type from None ≡ None
  no_to name type from =
      none_of name _ (λ name. none_of type _
      (λ t. none_of (as_cell t lo) _ (λ l. none_of (as_cell t hi) _ (λ h. none_of from _ (λ f. refl)))))

  by_ends : (name : List ℕ) (t : ColumnType) (f g : ℕ) (o : Option (ColumnType × Cell × Cell)) → o ≡ ends_as t lo hi
      → found (Some name) (Some t) (Some f) (Some g) ≡ (o >>= λ e. Some (lookup_of name f g e))
  by_ends name t f g o e = go (as_cell t lo) (as_cell t hi) ∙ ap (λ o. o >>= λ e. Some (lookup_of name f g e)) (sym e)
    where
      go : (l h : Option Cell) → (l >>= λ l. h >>= λ h. Some (lookup_of name f g (t, l, h)))
          ≡ (l >>= (λ l. h >>= λ h. Some (t, l, h)) >>= λ e. Some (lookup_of name f g e))
      go None h = refl
      go (Some l) None = refl
      go (Some l) (Some h) = refl

module _ (n t lo hi from to : Data) where
  -- a lookup whose rows begin at no number of 32 bits is no line
  pub bad_from : None ≡ as_u32 from → None ≡ find_line (n ∷ t ∷ lo ∷ hi ∷ from ∷ to ∷ [])
  bad_from e = sym (ap (λ f. found lo hi (as_str n) (as_type t) f (as_u32 to)) (sym e) ∙ no_from lo hi (as_str n) (as_type t) (as_u32 to))

  -- a lookup whose rows end at no number of 32 bits is no line
  pub bad_to : None ≡ as_u32 to → None ≡ find_line (n ∷ t ∷ lo ∷ hi ∷ from ∷ to ∷ [])
  bad_to e = sym (ap (λ g. found lo hi (as_str n) (as_type t) (as_u32 from) g) (sym e) ∙ no_to lo hi (as_str n) (as_type t) (as_u32 from))

  -- a lookup whose parts are read is the line of these, where its ends are of the type
  pub by_parts : (name : List ℕ) (type : ColumnType) (f g : ℕ) (o : Option (ColumnType × Cell × Cell))
      → Some name ≡ as_str n → Some type ≡ as_type t → Some f ≡ as_u32 from → Some g ≡ as_u32 to
      → o ≡ ends_as type lo hi
      → (o >>= λ e. Some (lookup_of name f g e)) ≡ find_line (n ∷ t ∷ lo ∷ hi ∷ from ∷ to ∷ [])
  by_parts name type f g o en et ef eg e =
      sym (by_ends lo hi name type f g o e)
      ∙ ap (λ x. found lo hi x (Some type) (Some f) (Some g)) en
      ∙ ap (λ x. found lo hi (as_str n) x (Some f) (Some g)) et
      ∙ ap (λ x. found lo hi (as_str n) (as_type t) x (Some g)) ef
      ∙ ap (λ x. found lo hi (as_str n) (as_type t) (as_u32 from) x) eg
