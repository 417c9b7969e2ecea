-- The least and the greatest of cells, where values tell them.
use Rattle.std.proofs.Common.{◌≡◌, ℕ, ℤ, pos, ◌-◌, ◌<◌, ◌≤◌, ◌+ℤ◌, min, max, Bool, true, false, List, [], ◌∷◌, map, fold, length, Option, Some, None, inl, inr, refl, sym, ◌∙◌, ap, ap₂, subst, arith}
use Rattle.std.specs.Prelude.{Contains}
use Rattle.std.specs.List.{All, AllByRecursion}
use Rattle.std.specs.Ordering.{is_eq, is_gt, partial_le, ordering_reverse}
use Rattle.std.specs.declared.cmp.Ordering.{Ordering}
use Rattle.std.specs.declared.cmp.Ordering.TheVariants.{Less, Equal, Greater}
use Rattle.std.proofs.lemmas.Bool.{cases_lt, or_left, or_right}
use Rattle.std.proofs.lemmas.Bool.Decides.{nat_tests}
use Rattle.std.proofs.lemmas.Cmp.{tied_itself}
use Rattle.std.proofs.lemmas.Int.{ints}
use Rattle.std.proofs.lemmas.List.Elements.{recursion_from_All}
use Rattle.col_common.specs.Ascending.{AreBelow, is_ascending}
use Rattle.col_model.proofs.DistinctLaws.{has}
use Rattle.col_model.proofs.StatsLaws.{all_by, all_both, mapped_all, fold-max-one, fold-max, least_of-all}
use Rattle.col_model.specs.Codes.{number_cmp}
use Rattle.col_model.specs.Stats.{least_of, greatest_of}
use Rattle.col_values.specs.Bounds.{AreExact}
use Rattle.col_values.specs.Monotonic.{Passes}
use Rattle.col_values.specs.Values.{IsAtMost}
use Rattle.col_facet.specs.Cells.{cell_cmp, cells_total, num_in}
use Rattle.col_facet.specs.Tables.{HasPlaces, term_at}
use Rattle.col_facet.specs.declared.facet_cell.FacetCell.{FacetCell}
use Rattle.col_facet.specs.declared.facet_cell.FacetCell.TheVariants.{Num, Addr}
use Rattle.col_facet.proofs.DocLemmas.{below-at}
use Rattle.col_facet.proofs.FacetLemmas.{terms-rise}
use Rattle.col_facet.proofs.OrderLemmas.{cells-apart}
use Rattle.col_look.specs.Ends.{first_by}
use Rattle.col_look.specs.FacetEnds.{ends_of}
use Rattle.col_look.proofs.BarLemmas.{IsAbove}
use Rattle.col_look.proofs.FirstLemmas.{first-is, has-at}

-- the order of cells, from the greatest down
abbrev falling : FacetCell → FacetCell → Ordering
falling a b = cell_cmp b a

turns : (a b : FacetCell) → cell_cmp a b ≡ Less → cell_cmp b a ≡ Greater
turns a b e = cells_total.antisymm b a ∙ ap ordering_reverse e

-- a cell ties with itself
tied : (c : FacetCell) → cell_cmp c c ≡ Equal
tied c = tied_itself cells_total c

-- cells of a list that stand before all others and behind them are its ends
ends-found : (lo hi : FacetCell) (cs : List FacetCell) → has cell_cmp lo cs ≡ true → has falling hi cs ≡ true
    → AllByRecursion (λ c. is_gt (cell_cmp lo c) ≡ false) cs → AllByRecursion (λ c. is_gt (cell_cmp c hi) ≡ false) cs
    → (Some lo, Some hi) ≡ ends_of cs
ends-found lo hi cs first last above below =
    ap₂ (λ o p. (o, p)) (sym (first-is cell_cmp cells-apart turns lo cs first above))
    (sym (first-is falling (λ a b e. sym (cells-apart b a e)) (λ a b e. turns b a e) hi cs last below))

-- the same of the cells of values
ends-told : {T : Type 0} (f : T → FacetCell) (lo hi : T) (xs : List T) → Contains xs lo → Contains xs hi
    → AllByRecursion (λ x. is_gt (cell_cmp (f lo) (f x)) ≡ false) xs
    → AllByRecursion (λ x. is_gt (cell_cmp (f x) (f hi)) ≡ false) xs
    → (Some (f lo), Some (f hi)) ≡ ends_of (map f xs)
ends-told f lo hi xs first last above below =
    ends-found (f lo) (f hi) (map f xs) (has-at cell_cmp f lo xs first.0 (tied (f lo)) first.1 first.2)
    (has-at falling f hi xs last.0 (tied (f hi)) last.1 last.2)
    (mapped_all (λ c. is_gt (cell_cmp (f lo) c) ≡ false) f xs above)
    (mapped_all (λ c. is_gt (cell_cmp c (f hi)) ≡ false) f xs below)

-- ---- numbers

-- a number doesn't stand behind one above it
above-not : (z : ℤ) (k : ℕ) → is_gt (cell_cmp (Num z) (Num (z +ℤ pos k))) ≡ false
above-not z k = grind (arith, ints, nat_tests)

-- nothing above a number is the number
pub nothing-above : (z : ℤ) → z +ℤ pos 0 ≡ z
nothing-above z = grind (arith, ints)

module _ {T : Type 0} (cmp : T → T → Option Ordering) (is_in : T → Bool) (is_default : T → Type 0) (code : T → ℕ)
    (num : T → ℤ) (xs : List T) (lo hi : T)
    (places : HasPlaces cmp is_in code (λ x. Num (num x)) (λ least n. Num (num least +ℤ pos n)))
    (each : All (Passes is_in) xs) (least_in : Passes is_in lo) (exact : AreExact cmp is_default xs lo hi) where
  not-behind : (x y : T) → Passes is_in x → IsAtMost cmp x y → is_gt (cell_cmp (Num (num x)) (Num (num y))) ≡ false
  not-behind x y p e =
      ap (λ c. is_gt (cell_cmp (Num (num x)) c)) (places.stands x y p e) ∙ above-not (num x) (code y - code x)

  above-least : AllByRecursion (IsAtMost cmp lo) xs
  above-least = recursion_from_All (IsAtMost cmp lo) xs exact.encloses.below

  below-greatest : AllByRecursion (λ x. IsAtMost cmp x hi) xs
  below-greatest = recursion_from_All (λ x. IsAtMost cmp x hi) xs exact.encloses.above

  -- the bounds of numbers are the ends of their cells
  pub number-ends : 0 < length xs → (least greatest : ℤ) → least ≡ num lo +ℤ pos 0 → greatest ≡ num hi +ℤ pos 0
      → (Some (Num least), Some (Num greatest)) ≡ ends_of (map (λ x. Num (num x)) xs)
  number-ends some least greatest low high =
      ap₂ (λ y z. (Some (Num y), Some (Num z))) (low ∙ nothing-above (num lo)) (high ∙ nothing-above (num hi))
      ∙ ends-told (λ x. Num (num x)) lo hi xs (exact.least some) (exact.greatest some)
      (all_by (λ x e. not-behind lo x least_in e) xs above-least)
      (all_by (λ x p. not-behind x hi p.0 p.1) xs
      (all_both (Passes is_in) (λ x. IsAtMost cmp x hi) xs (recursion_from_All (Passes is_in) xs each) below-greatest))

  -- numbers lie above the least, and no farther than the greatest
  pub are-above : AllByRecursion (λ x. IsAbove (num lo) (code lo) (code hi - code lo) (num x) (code x)) xs
  are-above = all_by lies xs (all_both (IsAtMost cmp lo) (λ x. IsAtMost cmp x hi) xs above-least below-greatest)
    where
      lies : (x : T) → IsAtMost cmp lo x × IsAtMost cmp x hi
          → IsAbove (num lo) (code lo) (code hi - code lo) (num x) (code x)
      lies x p = record {
        from = places.from lo x least_in p.0;
        within = let below = places.below x hi p.1 in omega (arith, below);
        stands = ap num_in (places.stands lo x least_in p.0);
      }

-- ---- addresses

-- what holds of a number and of each item holds of the least
fold-min-one : (P : ℕ → Type 0) (a : ℕ) (xs : List ℕ) → P a → AllByRecursion P xs → P (fold min a xs)
fold-min-one P a [] p all = p
fold-min-one P a (x ∷ xs) p all = fold-min-one P (min a x) xs (lesser a x p all.0) all.1
  where
    lesser : (m n : ℕ) → P m → P n → P (min m n)
    lesser m n p q =
        elim (cases_lt m n) [
          | inl h ↦ (let e : m ≡ min m n = omega (arith, h) in subst P e p)
          | inr h ↦ (let e : n ≡ min m n = omega (arith, h) in subst P e q)
        ]

-- each item is one of its list
items-are-in : {A : Type 0} (cmp : FacetCell → FacetCell → Ordering) (ties : (c : FacetCell) → cmp c c ≡ Equal) (f : A → FacetCell)
    (xs : List A) → AllByRecursion (λ x. has cmp (f x) (map f xs) ≡ true) xs
items-are-in cmp ties f [] = tt
items-are-in cmp ties f (x ∷ xs) = (
  or_left (is_eq (cmp (f x) (f x))) (has cmp (f x) (map f xs)) (ap is_eq (ties (f x))),
  all_by (λ y h. or_right (is_eq (cmp (f y) (f x))) (has cmp (f y) (map f xs)) h) xs (items-are-in cmp ties f xs),
)

address-not : (m n : ℕ) → m ≤ n → is_gt (cell_cmp (Addr m) (Addr n)) ≡ false
address-not m n h = grind (arith, nat_tests)

-- the least and the greatest of addresses are the ends of their cells
pub address-ends : (ns : List ℕ) → 0 < length ns
    → (Some (Addr (least_of ns)), Some (Addr (greatest_of ns))) ≡ ends_of (map (λ n. Addr n) ns)
address-ends [] some = absurd (omega (arith, some))
address-ends (n ∷ ns) some =
    let all = n ∷ ns in
    let up = items-are-in cell_cmp tied (λ n. Addr n) all in
    let down = items-are-in falling tied (λ n. Addr n) all in
    let first : n ≡ max 0 n = omega arith in
    ends-found (Addr (least_of all)) (Addr (greatest_of all)) (map (λ n. Addr n) all)
    (fold-min-one (λ m. has cell_cmp (Addr m) (map (λ n. Addr n) all) ≡ true) n ns up.0 up.1)
    (fold-max-one (λ m. has falling (Addr m) (map (λ n. Addr n) all) ≡ true) (max 0 n) ns
    (subst (λ m. has falling (Addr m) (map (λ n. Addr n) all) ≡ true) first down.0) down.1)
    (mapped_all (λ c. is_gt (cell_cmp (Addr (least_of all)) c) ≡ false) (λ n. Addr n) all
    (all_by (λ m h. address-not (least_of all) m h) all (least_of-all all)))
    (mapped_all (λ c. is_gt (cell_cmp c (Addr (greatest_of all))) ≡ false) (λ n. Addr n) all
    (all_by (λ m h. address-not m (greatest_of all) h) all (fold-max 0 all).1))

-- a list seen through a map that leaves each number is the list
pub view-same : (f : ℕ → ℕ) (xs ys : List ℕ) → ((n : ℕ) → f n ≡ n) → ys ≡ map f xs → ys ≡ xs
view-same f xs ys same e = e ∙ kept xs
  where
    kept : (ns : List ℕ) → map f ns ≡ ns
    kept [] = refl
    kept (n ∷ ns) = ap₂ (λ m ms. m ∷ ms) (same n) (kept ns)

-- ---- terms

at-most : (a b : ℕ) → partial_le number_cmp a b ≡ true → a ≤ b
at-most a b h = grind (arith, nat_tests)

-- a term doesn't stand behind those of later ordinals
term-not : (terms : List (List ℕ)) → is_ascending terms ≡ true → (i j : ℕ) → i ≤ j → j < length terms
    → is_gt (cell_cmp (term_at terms i) (term_at terms j)) ≡ false
term-not terms up i j le l =
    elim (cases_lt i j) [
      | inl h ↦ ap is_gt (terms-rise terms up i j h l)
      | inr h ↦
          (let same : j ≡ i = omega (arith, h, le) in
          ap (λ k. is_gt (cell_cmp (term_at terms i) (term_at terms k))) same ∙ ap is_gt (tied (term_at terms i)))
    ]

-- the terms of the least and of the greatest ordinal are the ends of their cells
pub term-ends : (is_default : ℕ → Type 0) (terms : List (List ℕ)) (xs : List ℕ) (lo hi : ℕ) → is_ascending terms ≡ true
    → AreBelow (length terms) xs → AreExact number_cmp is_default xs lo hi → 0 < length xs
    → (Some (term_at terms lo), Some (term_at terms hi)) ≡ ends_of (map (term_at terms) xs)
term-ends is_default terms xs lo hi up below exact some =
    let last = exact.greatest some in
    let inside : hi < length terms =
    subst (λ n. n < length terms) last.2 (below-at (length terms) xs last.0 hi below last.1) in
    ends-told (term_at terms) lo hi xs (exact.least some) last
    (all_by (λ x p. term-not terms up lo x (at-most lo x p.1) p.0) xs
    (all_both (λ x. x < length terms) (IsAtMost number_cmp lo) xs below
    (recursion_from_All (IsAtMost number_cmp lo) xs exact.encloses.below)))
    (all_by (λ x e. term-not terms up x hi (at-most x hi e) inside) xs
    (recursion_from_All (λ x. IsAtMost number_cmp x hi) xs exact.encloses.above))

-- ---- none

-- without values there are no ends
pub no-ends : {T : Type 0} (f : T → FacetCell) (xs : List T) → length xs ≡ 0 → (None, None) ≡ ends_of (map f xs)
unfolding first_by
no-ends f [] e = refl
no-ends f (x ∷ xs) e = absurd (omega (arith, e))
