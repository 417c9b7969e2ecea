-- Lists that are made item by item, where each item makes one.
use Rattle.std.proofs.Common.{◌≡◌, ◌∙◌, suc, List, [], ◌∷◌, length, Some, None, refl, sym, ap}
use Rattle.std.specs.Prelude.{Option}
use Rattle.std.proofs.lemmas.Option.{same_Some}
use Rattle.col_common.specs.Reading.{◌>>=◌}
use Rattle.col_model.specs.File.{for_each}

-- each item of a list that was made is made of one
pub made-parts : {A B : Type 0} (f : A → Option B) (x : A) (xs : List A) (ys : List B) → for_each f (x ∷ xs) ≡ Some ys
    → (y : B) × (rest : List B) × (f x ≡ Some y) × (for_each f xs ≡ Some rest) × (ys ≡ y ∷ rest)
made-parts {A} {B} f x xs ys e = by (f x) (for_each f xs) refl refl e
  where
    by : (o : Option B) (p : Option (List B)) → f x ≡ o → for_each f xs ≡ p → (o >>= λ y. p >>= λ ys. Some (y ∷ ys)) ≡ Some ys
        → (y : B) × (rest : List B) × (f x ≡ Some y) × (for_each f xs ≡ Some rest) × (ys ≡ y ∷ rest)
    by None p is more e = absurd (cc e)
    by (Some y) None is more e = absurd (cc e)
    by (Some y) (Some rest) is more e = (y, rest, is, more, sym (same_Some (y ∷ rest) ys e))

-- as many are made as there are items
pub made-long : {A B : Type 0} (f : A → Option B) (xs : List A) (ys : List B) → for_each f xs ≡ Some ys → length ys ≡ length xs
made-long f [] ys e = ap length (sym (same_Some [] ys e))
made-long f (x ∷ xs) ys e = let (y, rest, own, more, is) = made-parts f x xs ys e in ap length is ∙ ap suc (made-long f xs rest more)
