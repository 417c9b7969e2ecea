-- Columns by name, and their entries.
use Rattle.std.proofs.Common.{◌≡◌, ℕ, List, [], ◌∷◌, Bool, true, false, cond, Option, Some, None, sym, ◌∙◌, ap, refl, string_bytes}
use Rattle.std.specs.Prelude.{bytes_eq, option_map}
use Rattle.col_model.specs.Written.{Entry}
use Rattle.col_writer.specs.Changes.{ByName, column_at, SetsColumn}
use Rattle.col_writer.specs.Columns.{each_entry}
use Rattle.col_writer.proofs.ContentLemmas.{entry_at}
use Rattle.col_writer.proofs.RecordingLemmas.{UpdatesName, updates}

-- entries have the names of their columns
pub each-found : {X : Type 0} (f : X → Entry) (name : List ℕ) (es : ByName X)
    → entry_at name (each_entry f es) ≡ option_map f (column_at name es)
each-found f name [] = refl
each-found f name (e ∷ es) =
    elim (bytes_eq name (string_bytes e.0)) as (λ b. cond b (Some (f e.1)) (entry_at name (each_entry f es))
    ≡ option_map f (cond b (Some e.1) (column_at name es))) [
      | true ↦ refl
      | false ↦ each-found f name es
    ]

-- a column that is set sets its entry
pub each-updates : {X : Type 0} (f : X → Entry) (name : List ℕ) (w : X) (old new : ByName X)
    → SetsColumn name w old new → UpdatesName name (f w) (each_entry f old) (each_entry f new)
each-updates {X} f name w old new h =
    updates name (f w) (each_entry f old) (each_entry f new)
    (λ bs. each-found f bs new ∙ ap (option_map f) (h bs) ∙ through (bytes_eq name bs) (column_at bs old)
    ∙ ap (cond (bytes_eq name bs) (Some (f w))) (sym (each-found f bs old)))
  where
    through : (b : Bool) (o : Option X) → option_map f (cond b (Some w) o) ≡ cond b (Some (f w)) (option_map f o)
    through true o = refl
    through false o = refl

-- the entry of a column that is there, and of none
pub entry-found : {X : Type 0} (f : X → Entry) (name : List ℕ) (es : ByName X) (w : X)
    → column_at name es ≡ Some w → entry_at name (each_entry f es) ≡ Some (f w)
entry-found f name es w e = each-found f name es ∙ ap (option_map f) e

-- where no column has the name, no entry has it
pub entry-missing : {X : Type 0} (f : X → Entry) (name : List ℕ) (es : ByName X)
    → column_at name es ≡ None → entry_at name (each_entry f es) ≡ None
entry-missing f name es e = each-found f name es ∙ ap (option_map f) e
