-- Texts of a column.
use Rattle.std.specs.Prelude.{◌≡◌, ◌<◌, nat_eq, ℕ, Bool, true, false, List, [], map, length, slice_get, unwrap_or, bytes_eq}
use Rattle.std.specs.List.{list_any, IsDistinct}
use Rattle.col_common.specs.Ascending.{are_below}

-- texts beside their documents, in order of recording; whether the type was asked for; whether the
-- texts of a row are sorted
pub record RecordedTexts : Type 0 where
  pub values : List (ℕ × List ℕ)
  pub is_forced : Bool
  pub sorts : Bool

-- no texts
abbrev pub no_texts : RecordedTexts
no_texts = record { values = []; is_forced = false; sorts = false }

-- the term of an id
abbrev pub term_of : List (List ℕ) → ℕ → List ℕ
term_of terms id = unwrap_or (slice_get terms id) []

-- the texts of ids beside their documents
unfoldable pub texts_by_id : List (List ℕ) → List (ℕ × ℕ) → List (ℕ × List ℕ)
texts_by_id terms ps = map (λ p. (p.0, term_of terms p.1)) ps

-- the ids of values
abbrev pub ids_of : List (ℕ × ℕ) → List ℕ
ids_of ps = map (λ p. p.1) ps

-- each id has a term, each term has an id, and no term is there twice
pub record AreIds (terms : List (List ℕ)) (ps : List (ℕ × ℕ)) : Type 0 where
  pub differ : IsDistinct bytes_eq terms
  pub known : are_below (length terms) (ids_of ps) ≡ true
  pub used : (id : ℕ) → id < length terms → list_any (nat_eq id) (ids_of ps) ≡ true

-- terms and ids of which these are the texts
pub record HaveTexts (terms : List (List ℕ)) (ps : List (ℕ × ℕ)) (texts : List (ℕ × List ℕ))
    : Type 0 where
  pub ids : AreIds terms ps
  pub are : texts ≡ texts_by_id terms ps
