-- What an empty column makes of columns by name, which it refuses or joins.
use Rattle.std.proofs.Common.{◌≡◌, ℕ, None, Result, Ok, Err, refl, sym, ◌∙◌, ap, subst}
use Rattle.col_common.specs.declared.error.ColumnarError.{ColumnarError}
use Rattle.std.specs.Prelude.{List}
use Rattle.col_writer.specs.Changes.{ByName, column_at, SetsColumn, ChangesColumn, of_none}

module _ {X : Type 0} (IsEmpty : X → Type 0) (Makes : X → X → Result (Unit {0}) ColumnarError → Type 0)
    (name : List ℕ) (old : ByName X) where
  -- an empty column refuses
  pub none-refused : (w v : X) (r : Result (Unit {0}) ColumnarError) (x y : ColumnarError) → r ≡ Err x → x ≡ y
      → column_at name old ≡ None → IsEmpty w → Makes w v (Err y) → ChangesColumn IsEmpty Makes name old old r
  none-refused w v r x y is same none empty made =
      subst (λ o. ChangesColumn IsEmpty Makes name old old o) (sym (is ∙ ap Err same)) (of_none w v none empty made tt refl)

  -- an empty column gets a key that is the name
  pub none-set : (w v : X) (new : ByName X) (key : List ℕ) → column_at name old ≡ None → IsEmpty w → Makes w v (Ok tt)
      → key ≡ name → SetsColumn key v old new → ChangesColumn IsEmpty Makes name old new (Ok tt)
  none-set w v new key none empty made is set =
      of_none w v none empty made (subst (λ k. SetsColumn k v old new) is set) tt
