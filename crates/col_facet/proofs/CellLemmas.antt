-- Cells of the model as those of facets: their order is kept, and so are counts.
use Rattle.std.proofs.Common.{◌≡◌, ℕ, ℤ, pos, negsuc, ◌+◌, Bool, true, false, cond, List, [], ◌∷◌, ◌++◌, map, refl, sym, ◌∙◌, ap, ap₂, arith}
use Rattle.std.specs.List.{count_by}
use Rattle.std.proofs.lemmas.Int.{ints}
use Rattle.std.specs.declared.cmp.Ordering.{Ordering}
use Rattle.std.specs.declared.cmp.Ordering.TheVariants.{Less, Equal, Greater}
use Rattle.std.specs.Ordering.{eq_by_cmp, is_eq, int_cmp, nat_cmp, match_ordering}
use Rattle.std.proofs.lemmas.List.{map-append}
use Rattle.std.proofs.lemmas.List.Sums.{sum_by-cons}
use Rattle.col_common.proofs.OctetLemmas.{then_nothing}
use Rattle.col_model.specs.ColumnType.{ColumnType, same_type}
use Rattle.col_model.specs.ColumnType as types
use Rattle.col_model.specs.Facets.{cell_order, are_one, counts_of_cells, sum_of_counts, sums_of_counts}
use Rattle.col_model.specs.Sorted.{with_item, distinct_items}
use Rattle.col_model.specs.Table.{Cell, number, text}
use Rattle.col_model.proofs.ListLaws.{map-map}
use Rattle.col_facet.specs.Cells.{cell_cmp}
use Rattle.col_facet.specs.Facets.{facets_of, totals_of, copies, same_cell, summed_count, counted_cells, facet_cell, address_cell, counted_as}
use Rattle.col_facet.specs.declared.facet_cell.FacetCell.{FacetCell}
use Rattle.col_facet.specs.declared.facet_cell.FacetCell.TheVariants.{Num, Term}
use Rattle.col_facet.specs.declared.facet_cell.FacetCount.{FacetCount}

module _ {A B : Type 0} (f : A → B) (cmp : A → A → Ordering) (dmp : B → B → Ordering)
    (keeps : (a b : A) → dmp (f a) (f b) ≡ cmp a b) where
  with_item-map : (x : A) (ys : List A) → with_item dmp (f x) (map f ys) ≡ map f (with_item cmp x ys)
  with_item-map x [] = refl
  with_item-map x (y ∷ ys) =
      ap (λ r. match_ordering r (f x ∷ f y ∷ map f ys) (f y ∷ map f ys) (f y ∷ with_item dmp (f x) (map f ys))) (keeps x y)
      ∙ go (cmp x y) (with_item-map x ys)
    where
      go : (r : Ordering) → with_item dmp (f x) (map f ys) ≡ map f (with_item cmp x ys)
          → match_ordering r (f x ∷ f y ∷ map f ys) (f y ∷ map f ys) (f y ∷ with_item dmp (f x) (map f ys))
          ≡ map f (match_ordering r (x ∷ y ∷ ys) (y ∷ ys) (y ∷ with_item cmp x ys))
      go Less e = refl
      go Equal e = refl
      go Greater e = ap (λ r. f y ∷ r) e

  -- the distinct items of what a map that keeps an order makes of items
  pub distinct-map : (xs : List A) → distinct_items dmp (map f xs) ≡ map f (distinct_items cmp xs)
  unfolding distinct_items
  distinct-map [] = refl
  distinct-map (x ∷ xs) = ap (with_item dmp (f x)) (distinct-map xs) ∙ with_item-map x (distinct_items cmp xs)

  -- and how often they stand
  pub count-map : (c : A) (xs : List A) → count_by (λ y. eq_by_cmp dmp (f c) y) (map f xs) ≡ count_by (λ y. eq_by_cmp cmp c y) xs
  count-map c [] = refl
  count-map c (x ∷ xs) =
      sum_by-cons (λ (y : B). cond (eq_by_cmp dmp (f c) y) 1 0) (f x) (map f xs)
      ∙ ap₂ (λ r n. cond (is_eq r) 1 0 + n) (keeps c x) (count-map c xs)
      ∙ sym (sum_by-cons (λ (y : A). cond (eq_by_cmp cmp c y) 1 0) x xs)

-- ---- the order of cells

-- numbers that aren't negative compare as they do
unsigned-order : (m n : ℕ) → nat_cmp m n ≡ int_cmp (pos m) (pos n)
unsigned-order m n = grind (arith, ints)

numbers-keep : (b : Bool) (y z : ℤ)
    → cell_cmp (cond b (address_cell y) (Num y)) (cond b (address_cell z) (Num z)) ≡ int_cmp y z
numbers-keep false y z = then_nothing (int_cmp y z)
numbers-keep true (pos m) (pos n) = then_nothing (nat_cmp m n) ∙ unsigned-order m n
numbers-keep true (pos m) (negsuc n) = refl
numbers-keep true (negsuc m) (pos n) = refl
numbers-keep true (negsuc m) (negsuc n) = then_nothing (int_cmp (negsuc m) (negsuc n))

number-first : (b : Bool) (z : ℤ) (t : List ℕ) → cell_cmp (cond b (address_cell z) (Num z)) (Term t) ≡ Less
number-first false z t = refl
number-first true (pos n) t = refl
number-first true (negsuc n) t = refl

term-behind : (b : Bool) (z : ℤ) (t : List ℕ) → cell_cmp (Term t) (cond b (address_cell z) (Num z)) ≡ Greater
term-behind false z t = refl
term-behind true (pos n) t = refl
term-behind true (negsuc n) t = refl

-- cells of facets compare as those of the model
pub cells-keep : (t : ColumnType) (a b : Cell) → cell_cmp (facet_cell t a) (facet_cell t b) ≡ cell_order a b
cells-keep t (number y) (number z) = numbers-keep (same_type t types.ip) y z
cells-keep t (number y) (text b) = number-first (same_type t types.ip) y b
cells-keep t (text a) (number z) = term-behind (same_type t types.ip) z a
cells-keep t (text a) (text b) = refl

-- ---- counts

-- the facets of cells are their counts
pub counts-of-cells : (t : ColumnType) (cs : List Cell) → facets_of (map (facet_cell t) cs) ≡ counted_as t (counts_of_cells cs)
unfolding facets_of counts_of_cells
counts-of-cells t cs =
    let ds = distinct_items cell_order cs in
    ap (map (λ (c : FacetCell). let r : FacetCount = record { cell = c; count = copies (map (facet_cell t) cs) c } in r))
    (distinct-map (facet_cell t) cell_order cell_cmp (cells-keep t) cs)
    ∙ map-map (λ (c : FacetCell). let r : FacetCount = record { cell = c; count = copies (map (facet_cell t) cs) c } in r) (facet_cell t) ds
    ∙ (λ i. map (λ (c : Cell). let r : FacetCount = record {
      cell = facet_cell t c;
      count = count-map (facet_cell t) cell_order cell_cmp (cells-keep t) c cs i;
    } in r) ds)
    ∙ sym (map-map (λ (p : Cell × ℕ). let r : FacetCount = record { cell = facet_cell t p.0; count = p.1 } in r)
    (λ c. (c, count_by (are_one c) cs)) ds)

-- ---- sums

sum-cells : (t : ColumnType) (ps : List (Cell × ℕ)) (c : Cell)
    → summed_count (counted_as t ps) (facet_cell t c) ≡ sum_of_counts ps c
sum-cells t [] c = refl
sum-cells t (p ∷ ps) c =
    sum_by-cons (λ (f : FacetCount). cond (same_cell (facet_cell t c) f.cell) f.count 0)
    (record { cell = facet_cell t p.0; count = p.1 }) (counted_as t ps)
    ∙ ap₂ (λ r n. cond (is_eq r) p.1 0 + n) (cells-keep t c p.0) (sum-cells t ps c)
    ∙ sym (sum_by-cons (λ (q : Cell × ℕ). cond (are_one c q.0) q.1 0) p ps)

cells-counted : (t : ColumnType) (ps : List (Cell × ℕ))
    → counted_cells (counted_as t ps) ≡ map (facet_cell t) (map (λ (p : Cell × ℕ). p.0) ps)
cells-counted t [] = refl
cells-counted t (p ∷ ps) = ap (λ r. facet_cell t p.0 ∷ r) (cells-counted t ps)

-- the totals of counts are their sums
pub sums-of-counts : (t : ColumnType) (ps : List (Cell × ℕ)) → totals_of (counted_as t ps) ≡ counted_as t (sums_of_counts ps)
unfolding totals_of sums_of_counts
sums-of-counts t ps =
    let ds = distinct_items cell_order (map (λ (p : Cell × ℕ). p.0) ps) in
    ap (map (λ (c : FacetCell). let r : FacetCount = record { cell = c; count = summed_count (counted_as t ps) c } in r))
    (ap (distinct_items cell_cmp) (cells-counted t ps)
    ∙ distinct-map (facet_cell t) cell_order cell_cmp (cells-keep t) (map (λ (p : Cell × ℕ). p.0) ps))
    ∙ map-map (λ (c : FacetCell). let r : FacetCount = record { cell = c; count = summed_count (counted_as t ps) c } in r) (facet_cell t) ds
    ∙ (λ i. map (λ (c : Cell). let r : FacetCount = record { cell = facet_cell t c; count = sum-cells t ps c i } in r) ds)
    ∙ sym (map-map (λ (p : Cell × ℕ). let r : FacetCount = record { cell = facet_cell t p.0; count = p.1 } in r)
    (λ c. (c, sum_of_counts ps c)) ds)

-- the sums of two lists of counts
pub sums-of-both : (t : ColumnType) (ps qs : List (Cell × ℕ))
    → totals_of (counted_as t ps ++ counted_as t qs) ≡ counted_as t (sums_of_counts (ps ++ qs))
sums-of-both t ps qs =
    ap totals_of (sym (map-append (λ (p : Cell × ℕ). let r : FacetCount = record { cell = facet_cell t p.0; count = p.1 } in r) ps qs))
    ∙ sums-of-counts t (ps ++ qs)
