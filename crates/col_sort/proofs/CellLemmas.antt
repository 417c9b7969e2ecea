-- Rows in the order of cells that keys stand for.
use Rattle.std.proofs.Common.{◌≡◌, ℕ, Bool, true, false, not, cond, List, [], ◌∷◌, map, refl, sym, ◌∙◌, ap, length}
use Rattle.std.specs.Prelude.{Option, Some, None}
use Rattle.std.specs.List.{AllByRecursion}
use Rattle.std.specs.declared.cmp.Ordering.{Ordering}
use Rattle.std.specs.Ordering.{is_gt}
use Rattle.col_model.specs.Lookup.{is_at_most}
use Rattle.col_model.specs.Order.{all_rows}
use Rattle.col_model.specs.Sorted.{inserted, sorted_items}
use Rattle.col_model.specs.SortOrder.{is_key_at_most, are_keys_in_order}
use Rattle.col_model.specs.Table.{Cell}
use Rattle.col_model.proofs.SortLaws.{all-sorted}
use Rattle.col_sort_rows.specs.Keys.{is_key_upto, stand_in_order, rows_of_all, rows_by_keys}
use Rattle.col_sort_rows.proofs.RowLemmas.{rows-are-all}

-- ---- sorting lists that are alike

inserted-alike : {X : Type 0} (P : X → Type 0) (f g : X → X → Bool) → ((x y : X) → P x → P y → f x y ≡ g x y)
    → (x : X) (ys : List X) → P x → AllByRecursion P ys → inserted f x ys ≡ inserted g x ys
inserted-alike P f g e x [] p all = refl
inserted-alike P f g e x (y ∷ ys) p all =
    (λ i. cond (e x y p all.0 i) (x ∷ y ∷ ys) (y ∷ inserted f x ys))
    ∙ ap (λ r. cond (g x y) (x ∷ y ∷ ys) (y ∷ r)) (inserted-alike P f g e x ys p all.1)

sorted-alike : {X : Type 0} (P : X → Type 0) (f g : X → X → Bool) → ((x y : X) → P x → P y → f x y ≡ g x y)
    → (xs : List X) → AllByRecursion P xs → sorted_items f xs ≡ sorted_items g xs
unfolding sorted_items
sorted-alike P f g e [] all = refl
sorted-alike P f g e (x ∷ xs) all =
    inserted-alike P f g e x (sorted_items f xs) all.0 (all-sorted f P xs all.1)
    ∙ ap (inserted g x) (sorted-alike P f g e xs all.1)

inserted-map : {X Y : Type 0} (h : X → Y) (f : Y → Y → Bool) (x : X) (ys : List X)
    → inserted f (h x) (map h ys) ≡ map h (inserted (λ a b. f (h a) (h b)) x ys)
inserted-map h f x [] = refl
inserted-map h f x (y ∷ ys) =
    elim (f (h x) (h y)) as (λ b. cond b (h x ∷ h y ∷ map h ys) (h y ∷ inserted f (h x) (map h ys))
    ≡ map h (cond b (x ∷ y ∷ ys) (y ∷ inserted (λ a b. f (h a) (h b)) x ys))) [
      | true ↦ refl
      | false ↦ ap (λ r. h y ∷ r) (inserted-map h f x ys)
    ]

sorted-map : {X Y : Type 0} (h : X → Y) (f : Y → Y → Bool) (xs : List X)
    → sorted_items f (map h xs) ≡ map h (sorted_items (λ a b. f (h a) (h b)) xs)
unfolding sorted_items
sorted-map h f [] = refl
sorted-map h f (x ∷ xs) =
    ap (inserted f (h x)) (sorted-map h f xs) ∙ inserted-map h f x (sorted_items (λ a b. f (h a) (h b)) xs)

-- ---- keys that stand for cells

-- a key for a cell, or none for none
unfoldable pub AgreesAs : {K : Type 0} → (Cell → K → Type 0) → Option Cell → Option K → Type 0
AgreesAs R None None = Unit {0}
AgreesAs R None (Some k) = ⊥
AgreesAs R (Some c) None = ⊥
AgreesAs R (Some c) (Some k) = R c k

-- cells compare as the keys that stand for them
pub record Compare {K : Type 0} (cmp : K → K → Ordering) (R : Cell → K → Type 0) : Type 0 where
  pub at_most : (a b : Cell) (k l : K) → R a k → R b l → is_at_most a b ≡ not (is_gt (cmp k l))

module _ {K : Type 0} (cmp : K → K → Ordering) (R : Cell → K → Type 0) (laws : Compare cmp R) where
  upto-alike : (a b : Option Cell) (k l : Option K) → AgreesAs R a k → AgreesAs R b l
      → is_key_at_most a b ≡ is_key_upto cmp k l
  unfolding AgreesAs
  upto-alike None b None l h g = refl
  upto-alike None b (Some k) l h g = absurd h
  upto-alike (Some a) b None l h g = absurd h
  upto-alike (Some a) None (Some k) None h g = refl
  upto-alike (Some a) None (Some k) (Some l) h g = absurd g
  upto-alike (Some a) (Some b) (Some k) None h g = absurd g
  upto-alike (Some a) (Some b) (Some k) (Some l) h g = laws.at_most a b k l h g

  in-order-alike : (reversed : Bool) (a b : Option Cell) (k l : Option K) → AgreesAs R a k → AgreesAs R b l
      → are_keys_in_order reversed a b ≡ stand_in_order cmp reversed k l
  in-order-alike true a b k l h g = upto-alike b a l k g h
  in-order-alike false a b k l h g = upto-alike a b k l h g

  -- rows by their cells are those by their keys
  pub cells-by-keys : (reversed : Bool) (cell : ℕ × ℕ → Option Cell) (kss : List (List (Option K)))
      → AllByRecursion (λ z. AgreesAs R (cell z.0) z.1) (rows_of_all 0 kss)
      → sorted_items (λ a b. are_keys_in_order reversed (cell a) (cell b)) (all_rows (map length kss))
      ≡ rows_by_keys cmp reversed kss
  unfolding rows_by_keys
  cells-by-keys reversed cell kss all =
      let by_cell = λ (a b : ℕ × ℕ). are_keys_in_order reversed (cell a) (cell b) in
      let zs = rows_of_all 0 kss in
      ap (sorted_items by_cell) (sym (rows-are-all kss)) ∙ sorted-map (λ z. z.0) by_cell zs
      ∙ ap (map (λ z. z.0)) (sorted-alike (λ z. AgreesAs R (cell z.0) z.1) (λ x y. by_cell x.0 y.0)
      (λ x y. stand_in_order cmp reversed x.1 y.1)
      (λ x y h g. in-order-alike reversed (cell x.0) (cell y.0) x.1 y.1 h g) zs all)
