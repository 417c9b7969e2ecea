-- Lists held against a bound by their greatest number.
use Rattle.std.proofs.Common.{◌≡◌, ℕ, zero, suc, ◌<◌, ◌≤◌, true, nat_lt, List, [], ◌∷◌, length, refl, inl, inr, sym, ◌∙◌, arith}
use Rattle.std.specs.List.{AllByRecursion}
use Rattle.std.proofs.lemmas.Bool.{cases_lt, lt-ltb, le-ltb, false_from_ne_true}
use Rattle.col_common.specs.Ascending.{are_below}
use Rattle.col_model.specs.Stats.{greatest_of}
use Rattle.col_model.proofs.StatsLaws.{fold-max, fold-max-one}
use Rattle.col_index.proofs.SpreadLaws.{all_below}

-- numbers that aren't above one below the bound
below_bound : (b g : ℕ) (xs : List ℕ) → g < b → AllByRecursion (λ x. x ≤ g) xs → are_below b xs ≡ true
below_bound b g [] h all = refl
below_bound b g (x ∷ xs) h all = rw (lt-ltb x b (omega (arith, all.0))) (below_bound b g xs h all.1)

-- the greatest number tells where the bound isn't 0
pub greatest_below : (b : ℕ) (xs : List ℕ) → 0 < b → nat_lt (greatest_of xs) b ≡ are_below b xs
greatest_below b xs some = elim (cases_lt (greatest_of xs) b) [
  | inl low ↦ lt-ltb (greatest_of xs) b low ∙ sym (below_bound b (greatest_of xs) xs low (fold-max 0 xs).1)
  | inr high ↦
      le-ltb (greatest_of xs) b high
      ∙ sym (false_from_ne_true _ (λ e. let low = fold-max-one (λ v. v < b) 0 xs some (all_below b xs e) in omega (arith, low, high)))
]

-- and where it is 0, as long as there are numbers
pub greatest_from_some : (b : ℕ) (xs : List ℕ) → (length xs ≡ 0 → ⊥) → nat_lt (greatest_of xs) b ≡ are_below b xs
greatest_from_some b [] some = absurd (some refl)
greatest_from_some (suc b) (x ∷ xs) some = greatest_below (suc b) (x ∷ xs) (omega arith)
greatest_from_some zero (x ∷ xs) some = le-ltb (greatest_of (x ∷ xs)) zero (omega arith) ∙ sym (rw (le-ltb x zero (omega arith)) refl)
