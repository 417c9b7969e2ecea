-- Steps over a list, item by item.
use Rattle.std.proofs.Common.{◌≡◌, List, [], ◌∷◌, ◌++◌, Result, Ok, Err, refl}
use Rattle.col_model.specs.Refusal.{Refusal, ◌>>=◌, each_ok}
use Rattle.col_model.proofs.RefusalLaws.{bind-ok}

-- the first refusal is that of the whole
pub each-stops :
    {A B : Type 0} (f : A → Result B Refusal) (xs : List A) (x : A) (zs : List A) (ys : List B) (e : Refusal)
    → each_ok f xs ≡ Ok ys → f x ≡ Err e → each_ok f (xs ++ x ∷ zs) ≡ Err e
each-stops f [] x zs ys e g h = rw h refl
each-stops f (z ∷ xs) x zs ys e g h =
    let step = bind-ok (f z) (λ w. each_ok f xs >>= λ ws. Ok (w ∷ ws)) ys g in
    let rest = bind-ok (each_ok f xs) (λ ws. Ok (step.0 ∷ ws)) ys step.2 in
    rw (step.1, each-stops f xs x zs rest.0 e rest.1 h) refl
