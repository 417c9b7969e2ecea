-- The first of items in an order: it is the one that stands behind none.
use Rattle.std.proofs.Common.{◌≡◌, ℕ, zero, suc, ◌<◌, Bool, true, false, cond, ◌||◌, List, [], ◌∷◌, map, length, get_or, Option, Some, None, IfSome, option_map, refl, sym, ◌∙◌, ap, arith}
use Rattle.std.specs.List.{AllByRecursion}
use Rattle.std.specs.Ordering.{eq_by_cmp, is_eq, is_gt}
use Rattle.std.specs.declared.cmp.Ordering.{Ordering}
use Rattle.std.specs.declared.cmp.Ordering.TheVariants.{Less, Equal, Greater}
use Rattle.std.proofs.lemmas.Bool.{false≢true, or_right}
use Rattle.col_model.proofs.DistinctLaws.{has}
use Rattle.col_model.proofs.OrderingLaws.{equal_of}
use Rattle.col_look.specs.Ends.{earlier, first_by}

-- what is neither equal nor greater is less
less-left : (r : Ordering) → is_eq r ≡ false → is_gt r ≡ false → r ≡ Less
less-left Less e f = refl
less-left Equal e f = absurd (false≢true (sym e))
less-left Greater e f = absurd (false≢true (sym f))

module _ {A : Type 0} (cmp : A → A → Ordering) (apart : (a b : A) → cmp a b ≡ Equal → a ≡ b)
    (turns : (a b : A) → cmp a b ≡ Less → cmp b a ≡ Greater) where
  -- the earlier of two is one of them
  earlier-keeps : (P : A → Type 0) (x : A) (o : Option A) → P x → IfSome o P → P (earlier cmp x o)
  earlier-keeps P x None p q = p
  earlier-keeps P x (Some y) p q = go (is_gt (cmp x y))
    where
      go : (b : Bool) → P (cond b y x)
      go true = q
      go false = p

  -- what all items keep, the first keeps
  first-keeps : (P : A → Type 0) (xs : List A) → AllByRecursion P xs → IfSome (first_by cmp xs) P
  unfolding first_by
  first-keeps P [] all = tt
  first-keeps P (x ∷ xs) all = earlier-keeps P x (first_by cmp xs) all.0 (first-keeps P xs all.1)

  -- an item that stands behind none of what may be is the earlier
  earlier-stays : (m : A) (o : Option A) → IfSome o (λ y. is_gt (cmp m y) ≡ false) → earlier cmp m o ≡ m
  earlier-stays m None h = refl
  earlier-stays m (Some y) h = ap (λ b. cond b y m) h

  -- an item that stands behind none of its list is the first
  pub first-is : (m : A) (xs : List A) → has cmp m xs ≡ true → AllByRecursion (λ x. is_gt (cmp m x) ≡ false) xs
      → first_by cmp xs ≡ Some m
  unfolding first_by
  first-is m [] h all = absurd (false≢true h)
  first-is m (x ∷ xs) h all = go (eq_by_cmp cmp m x) refl (λ found. first-is m xs found all.1)
    where
      go : (b : Bool) → eq_by_cmp cmp m x ≡ b → (has cmp m xs ≡ true → first_by cmp xs ≡ Some m)
          → Some (earlier cmp x (first_by cmp xs)) ≡ Some m
      go true e later =
          let same : x ≡ m = sym (apart m x (equal_of (cmp m x) e)) in
          ap (λ y. Some (earlier cmp y (first_by cmp xs))) same
          ∙ ap Some (earlier-stays m (first_by cmp xs) (first-keeps (λ y. is_gt (cmp m y) ≡ false) xs all.1))
      go false e later =
          let rest = later (ap (λ b. b || has cmp m xs) (sym e) ∙ h) in
          let behind : cmp x m ≡ Greater = turns m x (less-left (cmp m x) e all.0) in
          ap (λ o. Some (earlier cmp x o)) rest ∙ ap (λ r. Some (cond (is_gt r) m x)) behind

-- an item that is found at a place is one of the list
pub has-at : {A B : Type 0} (cmp : B → B → Ordering) (f : A → B) (m : A) (xs : List A) (k : ℕ) → cmp (f m) (f m) ≡ Equal
    → k < length xs → get_or xs k m ≡ m → has cmp (f m) (map f xs) ≡ true
has-at cmp f m [] k tied inside e = absurd (omega (arith, inside))
has-at cmp f m (x ∷ xs) zero tied inside e =
    ap (λ y. eq_by_cmp cmp (f m) (f y) || has cmp (f m) (map f xs)) e
    ∙ ap (λ r. is_eq r || has cmp (f m) (map f xs)) tied
has-at cmp f m (x ∷ xs) (suc k) tied inside e =
    or_right (eq_by_cmp cmp (f m) (f x)) (has cmp (f m) (map f xs)) (has-at cmp f m xs k tied (omega (arith, inside)) e)

-- ---- maps that keep an order

module _ {A B : Type 0} (f : A → B) (cmp : A → A → Ordering) (dmp : B → B → Ordering)
    (keeps : (a b : A) → dmp (f a) (f b) ≡ cmp a b) where
  earlier-map : (x : A) (o : Option A) → earlier dmp (f x) (option_map f o) ≡ f (earlier cmp x o)
  earlier-map x None = refl
  earlier-map x (Some y) = ap (λ r. cond (is_gt r) (f y) (f x)) (keeps x y) ∙ go (is_gt (cmp x y))
    where
      go : (b : Bool) → cond b (f y) (f x) ≡ f (cond b y x)
      go true = refl
      go false = refl

  -- the first of what a map that keeps the order makes of items
  pub first-map : (xs : List A) → first_by dmp (map f xs) ≡ option_map f (first_by cmp xs)
  unfolding first_by
  first-map [] = refl
  first-map (x ∷ xs) =
      ap (λ o. Some (earlier dmp (f x) o)) (first-map xs) ∙ ap Some (earlier-map x (first_by cmp xs))
