-- Facets of values, by tables of how often their places stand.
use Rattle.std.proofs.Common.{◌≡◌, ℕ, zero, suc, ◌+◌, ◌-◌, ◌<◌, ◌≤◌, ◌==◌, cond, List, [], ◌∷◌, map, take, length, get_or, refl, sym, ◌∙◌, ap, ap₂, subst, arith}
use Rattle.std.specs.List.{All, AllByRecursion, count_by}
use Rattle.std.proofs.lemmas.Bool.Decides.{nat_tests}
use Rattle.std.proofs.lemmas.List.Elements.{recursion_from_All}
use Rattle.std.proofs.lemmas.List.Sums.{sum_by-cons}
use Rattle.col_common.specs.Ascending.{AreBelow}
use Rattle.col_model.proofs.StatsLaws.{all_by}
use Rattle.col_facet.specs.Facets.{facets_of}
use Rattle.col_facet.specs.Tables.{AreRising, IsPlaced, counted_from}
use Rattle.col_facet.specs.declared.facet_cell.FacetCell.{FacetCell}
use Rattle.col_facet.proofs.TableLemmas.{table-facets}

-- a number is so far above a base where its place is the distance
at-place : (n base i : ℕ) → base ≤ n → (n == base + i) ≡ (n - base == i)
at-place n base i h = grind (arith, nat_tests)

module _ {T : Type 0} (code : T → ℕ) (cell : T → FacetCell) (place_cell : ℕ → FacetCell) (base len : ℕ) where
  abbrev place : T → ℕ
  place x = code x - base

  places-counted : (xs : List T) (i : ℕ) → AllByRecursion (IsPlaced code cell place_cell base len) xs
      → count_by (λ x. code x == base + i) xs ≡ count_by (λ o. o == i) (map place xs)
  places-counted [] i all = refl
  places-counted (x ∷ xs) i all =
      sum_by-cons (λ (y : T). cond (code y == base + i) 1 0) x xs
      ∙ ap₂ (λ b n. cond b 1 0 + n) (at-place (code x) base i all.0.from) (places-counted xs i all.1)
      ∙ sym (sum_by-cons (λ (o : ℕ). cond (o == i) 1 0) (place x) (map place xs))

  places-below : (xs : List T) → AllByRecursion (IsPlaced code cell place_cell base len) xs
      → AllByRecursion (λ o. o < len) (map place xs)
  places-below [] all = tt
  places-below (x ∷ xs) all = (omega (arith, all.0.from, all.0.below), places-below xs all.1)

  places-cells : (xs : List T) → AllByRecursion (IsPlaced code cell place_cell base len) xs
      → map place_cell (map place xs) ≡ map cell xs
  places-cells [] all = refl
  places-cells (x ∷ xs) all = ap₂ (λ c cs. c ∷ cs) (sym all.0.stands) (places-cells xs all.1)

  -- a table of how often the numbers of values stand gives the facets of their cells
  pub table-placed : (xs : List T) (counts : List ℕ) → AreRising place_cell len
      → AllByRecursion (IsPlaced code cell place_cell base len) xs → length counts ≡ len
      → ((i : ℕ) → i < len → get_or counts i 0 ≡ count_by (λ x. code x == base + i) xs)
      → counted_from place_cell 0 counts ≡ facets_of (map cell xs)
  table-placed xs counts up all size told =
      table-facets place_cell (map place xs) counts (λ i j h l. up i j h (omega (arith, l, size)))
      (subst (λ n. AllByRecursion (λ o. o < n) (map place xs)) (sym size) (places-below xs all))
      (λ i h. told i (omega (arith, h, size)) ∙ places-counted xs i all)
      ∙ ap facets_of (places-cells xs all)

-- what follows of each item from two facts holds of all
pub both-all : {T : Type 0} {P Q R : T → Type 0} (xs : List T) → ((x : T) → P x → Q x → R x) → All P xs → All Q xs
    → AllByRecursion R xs
both-all {T = T} {P = P} {Q = Q} {R = R} xs f ps qs = go xs (recursion_from_All P xs ps) (recursion_from_All Q xs qs)
  where
    go : (xs : List T) → AllByRecursion P xs → AllByRecursion Q xs → AllByRecursion R xs
    go [] ps qs = tt
    go (x ∷ xs) ps qs = (f x ps.0 qs.0, go xs ps.1 qs.1)

-- places below a length have their own cells
pub own-places : (cells : ℕ → FacetCell) (len : ℕ) (xs : List ℕ) → AreBelow len xs
    → AllByRecursion (IsPlaced (λ n. n) cells cells 0 len) xs
own-places cells len xs below =
    all_by (λ x h. record { from = omega arith; below = omega (arith, h); stands = ap cells (alone x) }) xs below
  where
    alone : (x : ℕ) → x ≡ x - 0
    alone x = omega arith

-- numbers below a bound, and one more below a greater one
pub below-more : (len new : ℕ) (xs : List ℕ) (i : ℕ) → i < length xs → AreBelow len (take i xs) → len ≤ new → get_or xs i 0 < new
    → AreBelow new (take (i + 1) xs)
below-more len new [] i h all l k = absurd (omega (arith, h))
below-more len new (x ∷ xs) zero h all l k = (k, tt)
below-more len new (x ∷ xs) (suc i) h all l k =
    let far : suc i + 1 ≡ suc (i + 1) = omega arith in
    subst (λ n. AreBelow new (take n (x ∷ xs))) (sym far)
    (omega (arith, all.0, l), below-more len new xs i (omega (arith, h)) all.1 l k)
