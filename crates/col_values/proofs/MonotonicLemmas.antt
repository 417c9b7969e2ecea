-- What a map that keeps the order does to bounds.
use Rattle.std.proofs.Common.{◌≡◌, ◌<◌, Bool, List, [], ◌∷◌, length, map, Contains, Option, refl, sym, ap, ◌∙◌, arith, subst}
use Rattle.std.specs.List.{All}
use Rattle.std.proofs.Math.ListN.{get_or-map}
use Rattle.std.proofs.lemmas.List.{length-map}
use Rattle.std.specs.Ordering.{is_some_and, is_le}
use Rattle.std.specs.declared.cmp.Ordering.{Ordering}
use Rattle.std.proofs.lemmas.List.Elements.{All-map}
use Rattle.col_values.specs.Values.{IsAtMost, Encloses}
use Rattle.col_values.specs.Bounds.{AreExact, IsMappedBound, IsOfValues}
use Rattle.col_values.specs.Monotonic.{Passes, IsMonotonic}

module _ {X Y : Type 0} {cx : X → X → Option Ordering} {cy : Y → Y → Option Ordering} {is_in : X → Bool} {there : X
    → Y} {back : Y → X} (laws : IsMonotonic cx cy is_in there back) where
  -- bounds are mapped to bounds
  pub encloses_mapped : (values : List X) (low high : X) → All (Passes is_in) values → Passes is_in low
      → Passes is_in high → Encloses cx low high values → Encloses cy (there low) (there high) (map there values)
  encloses_mapped values low high each l h e = record {
    below =
        All-map (IsAtMost cy (there low)) there values
        (λ k d within. ap (is_some_and is_le) (laws.compares low _ l (each k d within)) ∙ e.below k d within);
    above =
        All-map (λ v. IsAtMost cy v (there high)) there values
        (λ k d within. ap (is_some_and is_le) (laws.compares _ high (each k d within) h) ∙ e.above k d within);
  }

none_mapped : {X Y : Type 0} (there : X → Y) (values : List X) → map there values ≡ [] → values ≡ []
none_mapped there [] e = refl
none_mapped there (x ∷ values) e = absurd (cc)

-- what a value is mapped to is one of what the values are mapped to
contains_mapped : {X Y : Type 0} (there : X → Y) (values : List X) (x : X) → Contains values x → Contains (map there values) (there x)
contains_mapped there values x (i, within, is) =
    (i, omega (arith, within, length-map values there), get_or-map there values i x ∙ ap there is)

-- bounds that are values are mapped to exact bounds
pub exact_mapped : {X Y : Type 0} {cy : Y → Y → Option Ordering} (is_default : Y → Type 0) (there : X → Y)
    (values : List X) (low high : Y) (IsLeast IsGreatest : X → Type 0)
    → IsMappedBound is_default there values IsLeast low → IsMappedBound is_default there values IsGreatest high
    → Encloses cy low high (map there values) → IsOfValues values IsLeast → IsOfValues values IsGreatest
    → AreExact cy is_default (map there values) low high
exact_mapped {X = X} {Y = Y} is_default there values low high IsLeast IsGreatest l h e least greatest = record {
  without_values = λ none. let empty = none_mapped there values none in (l.without_values empty, h.without_values empty);
  least = λ some. of_values IsLeast low l least (some_values some);
  greatest = λ some. of_values IsGreatest high h greatest (some_values some);
  encloses = e;
}
  where
    some_values : 0 < length (map there values) → 0 < length values
    some_values some = omega (arith, some, length-map values there)

    of_values : (IsBound : X → Type 0) (bound : Y) → IsMappedBound is_default there values IsBound bound
        → IsOfValues values IsBound → 0 < length values → Contains (map there values) bound
    of_values IsBound bound m of some = by_value (m.mapped some)
      where
        by_value : (x : X) × IsBound x × (bound ≡ there x) → Contains (map there values) bound
        by_value (x, is, e) = subst (Contains (map there values)) (sym e) (contains_mapped there values x (of x some is))
