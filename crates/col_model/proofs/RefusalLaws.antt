-- What follows where steps refused nothing.
use Rattle.std.proofs.Common.{◌≡◌, Bool, true, false, Result, Ok, Err, is_ok, T, refl, sym, ap, subst, List, [], ◌∷◌, ◌++◌}
use Rattle.std.specs.Prelude.{⊤}
use Rattle.col_model.specs.Refusal.{Refusal, ◌>>=◌, refuse_if, each_ok}

-- a refusal is no answer
pub err_not_ok : {A : Type 0} (e : Refusal) (y : A) → Err e ≡ Ok y → ⊥
err_not_ok e y p = subst (λ r. T (is_ok r)) (sym p) tt

-- two values that are the same answer are the same value
pub same_Ok : {A : Type 0} (x y : A) → ◌≡◌ {A = Result A Refusal} (Ok x) (Ok y) → x ≡ y
same_Ok {A} x y p = ap value p
  where
    value : Result A Refusal → A
    value (Ok z) = z
    value (Err e) = x

-- what follows a step that refused nothing
pub refuse_if-ok : {A : Type 0} (t : Bool) (e : Refusal) (f : ⊤ → Result A Refusal) (y : A) → (refuse_if t e >>= f) ≡ Ok y → f tt ≡ Ok y
refuse_if-ok true e f y p = absurd (err_not_ok e y p)
refuse_if-ok false e f y p = p

-- where two steps in a row refuse nothing, the first gave something that the second goes on with
pub bind-ok : {A B : Type 0} (r : Result A Refusal) (f : A → Result B Refusal) (y : B) → (r >>= f) ≡ Ok y
    → (x : A) × (r ≡ Ok x) × (f x ≡ Ok y)
bind-ok (Ok x) f y p = (x, refl, p)
bind-ok (Err e) f y p = absurd (err_not_ok e y p)

-- one more item of a list none of which is refused
pub each-push : {A B : Type 0} (f : A → Result B Refusal) (xs : List A) (x : A) (ys : List B) (y : B)
    → each_ok f xs ≡ Ok ys → f x ≡ Ok y → each_ok f (xs ++ x ∷ []) ≡ Ok (ys ++ y ∷ [])
each-push f [] x ys y e h = rw h (ap (λ ys. Ok (ys ++ y ∷ [])) (same_Ok [] ys e))
each-push f (z ∷ xs) x ys y e h =
    let step = bind-ok (f z) (λ w. each_ok f xs >>= λ ws. Ok (w ∷ ws)) ys e in
    let rest = bind-ok (each_ok f xs) (λ ws. Ok (step.0 ∷ ws)) ys step.2 in
    rw (step.1, each-push f xs x rest.0 y rest.1 h) (ap (λ ys. Ok (ys ++ y ∷ [])) (same_Ok (step.0 ∷ rest.0) ys rest.2))
