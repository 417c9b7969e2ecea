-- Lists whose bounds are equal.
use Rattle.std.proofs.Common.{◌≡◌, ℕ, ◌≤◌, true, List, [], ◌∷◌, refl, sym, subst, arith}
use Rattle.std.specs.List.{AllByRecursion}
use Rattle.std.proofs.lemmas.Bool.{le-leb}
use Rattle.col_common.specs.Ascending.{is_never_falling}
use Rattle.col_model.specs.Stats.{least_of, greatest_of}
use Rattle.col_model.proofs.StatsLaws.{least_of-all, fold-max}

-- a list between a number and itself never falls
stays-between : (v : ℕ) (xs : List ℕ) → AllByRecursion (λ x. v ≤ x) xs → AllByRecursion (λ x. x ≤ v) xs → is_never_falling xs ≡ true
stays-between v [] low high = refl
stays-between v (x ∷ []) low high = refl
stays-between v (x ∷ y ∷ ys) low high =
    let here : x ≤ y = omega (arith, low.1.0, high.0) in
    rw (le-leb x y here) (stays-between v (y ∷ ys) low.1 high.1)

-- nor does one whose bounds are equal
pub stays-equal : (xs : List ℕ) → least_of xs ≡ greatest_of xs → is_never_falling xs ≡ true
stays-equal xs e =
    stays-between (least_of xs) xs (least_of-all xs) (subst (λ v. AllByRecursion (λ x. x ≤ v) xs) (sym e) (fold-max 0 xs).1)
