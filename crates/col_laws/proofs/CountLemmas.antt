-- Counts of cells, and their sums: the counts of cells are the sums of counts of their parts.
use Rattle.std.proofs.Common.{◌≡◌, ℕ, ℤ, pos, ◌+◌, Bool, true, false, ◌||◌, cond, List, [], ◌∷◌, ◌++◌, map, refl, sym, ◌∙◌, ap, ap₂, subst, arith, flat_map}
use Rattle.std.specs.List.{AllByRecursion, count_by, sum_by}
use Rattle.std.specs.List.Sorted.{IsStrictlySortedBy}
use Rattle.std.specs.declared.cmp.Ordering.{Ordering}
use Rattle.std.specs.declared.cmp.Ordering.TheVariants.{Less, Equal, Greater}
use Rattle.std.specs.Ordering.{eq_by_cmp, is_eq, int_cmp, nat_cmp, on, then_cmp}
use Rattle.std.specs.Cmp.{IsTotalOrder}
use Rattle.std.specs.Cmp.Lexicographic.{slice_cmp}
use Rattle.std.specs.FinMap.{IsAntisymmetric, nat_cmp-IsAntisymmetric, int_cmp-IsAntisymmetric, slice_cmp-IsAntisymmetric}
use Rattle.std.proofs.lemmas.Bool.{true≢false}
use Rattle.std.proofs.lemmas.Cmp.{then_total, on_total, nat_cmp_total, int_cmp_total, nat_list_cmp_total}
use Rattle.std.proofs.lemmas.List.{map-append}
use Rattle.std.proofs.lemmas.List.Folds.{list_any-append}
use Rattle.std.proofs.lemmas.List.Sums.{sum_by-cons, sum_by-append}
use Rattle.col_common.proofs.OctetLemmas.{then_nothing}
use Rattle.col_model.specs.Facets.{cell_order, are_one, counts_of_cells, sum_of_counts, sums_of_counts}
use Rattle.col_model.specs.Sorted.{distinct_items}
use Rattle.col_model.specs.Table.{Cell, number, text}
use Rattle.col_model.proofs.DistinctLaws.{has, has-distinct, same_distinct, sorted-with_item}
use Rattle.col_model.proofs.OrderingLaws.{equal_of}

-- ---- the order of cells

kind_of_cell : Cell → ℕ
kind_of_cell (number z) = 0
kind_of_cell (text s) = 1

number_of_cell : Cell → ℤ
number_of_cell (number z) = z
number_of_cell (text s) = pos 0

text_of_cell : Cell → List ℕ
text_of_cell (number z) = []
text_of_cell (text s) = s

abbrev by_parts : Cell → Cell → Ordering
by_parts = then_cmp (on kind_of_cell nat_cmp) (then_cmp (on number_of_cell int_cmp) (on text_of_cell (slice_cmp nat_cmp)))

parts-order : (a b : Cell) → by_parts a b ≡ cell_order a b
unfolding kind_of_cell number_of_cell text_of_cell
parts-order (number y) (number z) = then_nothing (int_cmp y z)
parts-order (number y) (text t) = refl
parts-order (text s) (number z) = refl
parts-order (text s) (text t) = refl

-- cells stand in a total order
pub order-total : IsTotalOrder cell_order
order-total =
    subst IsTotalOrder (λ i a b. parts-order a b i)
    (then_total (on_total kind_of_cell nat_cmp_total) (then_total (on_total number_of_cell int_cmp_total)
    (on_total text_of_cell nat_list_cmp_total)))

less≢equal : Less ≡ Equal → ⊥
less≢equal e = absurd (subst (λ (r : Ordering). IsLess r) e tt)
  where
    IsLess : Ordering → Type 0
    IsLess Less = Unit {0}
    IsLess Equal = ⊥
    IsLess Greater = ⊥

greater≢equal : Greater ≡ Equal → ⊥
greater≢equal e = absurd (subst (λ (r : Ordering). IsGreater r) e tt)
  where
    IsGreater : Ordering → Type 0
    IsGreater Less = ⊥
    IsGreater Equal = ⊥
    IsGreater Greater = Unit {0}

-- cells that tie are one
pub order-apart : IsAntisymmetric cell_order
order-apart (number y) (number z) e = ap number (int_cmp-IsAntisymmetric y z e)
order-apart (number y) (text t) e = absurd (less≢equal e)
order-apart (text s) (number z) e = absurd (greater≢equal e)
order-apart (text s) (text t) e = ap text (slice_cmp-IsAntisymmetric nat_cmp-IsAntisymmetric s t e)

-- ---- sums of counts

-- the cells of counts
abbrev pub cells_of_counts : List (Cell × ℕ) → List Cell
cells_of_counts ps = map (λ p. p.0) ps

-- counts of the same cells, with the same sum of each, have the same sums
same-sums : (ps qs : List (Cell × ℕ)) → ((c : Cell) → has cell_order c (cells_of_counts ps) ≡ has cell_order c (cells_of_counts qs))
    → ((c : Cell) → sum_of_counts ps c ≡ sum_of_counts qs c) → sums_of_counts ps ≡ sums_of_counts qs
unfolding sums_of_counts
same-sums ps qs h e =
    let d = same_distinct cell_order order-total order-apart (cells_of_counts ps) (cells_of_counts qs) h in
    λ i. map (λ (c : Cell). (c, e c i)) (d i)

sum-cons : (p : Cell × ℕ) (ps : List (Cell × ℕ)) (c : Cell)
    → sum_of_counts (p ∷ ps) c ≡ cond (are_one c p.0) p.1 0 + sum_of_counts ps c
sum-cons p ps c = sum_by-cons (λ (q : Cell × ℕ). cond (are_one c q.0) q.1 0) p ps

sum-both : (ps qs : List (Cell × ℕ)) (c : Cell) → sum_of_counts (ps ++ qs) c ≡ sum_of_counts ps c + sum_of_counts qs c
sum-both ps qs c = sum_by-append (λ (q : Cell × ℕ). cond (are_one c q.0) q.1 0) ps qs

has-both : (ps qs : List (Cell × ℕ)) (c : Cell)
    → has cell_order c (cells_of_counts (ps ++ qs)) ≡ (has cell_order c (cells_of_counts ps) || has cell_order c (cells_of_counts qs))
has-both ps qs c =
    ap (has cell_order c) (map-append (λ (p : Cell × ℕ). p.0) ps qs)
    ∙ list_any-append (eq_by_cmp cell_order c) (cells_of_counts ps) (cells_of_counts qs)

nothing-first : (n m : ℕ) → n ≡ m → 0 + n ≡ m
nothing-first n m e = omega (arith, e)

-- a cell that isn't there has no count
sum-none : (ps : List (Cell × ℕ)) (c : Cell) → has cell_order c (cells_of_counts ps) ≡ false → sum_of_counts ps c ≡ 0
sum-none [] c h = refl
sum-none (p ∷ ps) c h = sum-cons p ps c ∙ by (are_one c p.0) refl h (sum-none ps c)
  where
    by : (b : Bool) → are_one c p.0 ≡ b → (b || has cell_order c (cells_of_counts ps)) ≡ false
        → (has cell_order c (cells_of_counts ps) ≡ false → sum_of_counts ps c ≡ 0)
        → cond b p.1 0 + sum_of_counts ps c ≡ 0
    by true e h later = absurd (true≢false h)
    by false e h later = nothing-first (sum_of_counts ps c) 0 (later h)

-- ---- lists of distinct cells

module _ (f : Cell → ℕ) (c : Cell) where
  -- a cell before all others isn't among them
  none-behind : (ds : List Cell) → AllByRecursion (λ d. cell_order c d ≡ Less) ds
      → sum_by (λ d. cond (are_one c d) (f d) 0) ds ≡ 0
  none-behind [] all = refl
  none-behind (d ∷ ds) all =
      let apart : are_one c d ≡ false = ap is_eq all.0 in
      let later = none-behind ds all.1 in
      sum_by-cons (λ (x : Cell). cond (are_one c x) (f x) 0) d ds
      ∙ ap (λ b. cond b (f d) 0 + sum_by (λ x. cond (are_one c x) (f x) 0) ds) apart
      ∙ nothing-first _ 0 later

  -- of ascending cells one at most is this cell
  one-among : (ds : List Cell) → IsStrictlySortedBy cell_order ds
      → sum_by (λ d. cond (are_one c d) (f d) 0) ds ≡ cond (has cell_order c ds) (f c) 0
  unfolding IsStrictlySortedBy
  one-among [] s = refl
  one-among (d ∷ ds) s =
      sum_by-cons (λ (x : Cell). cond (are_one c x) (f x) 0) d ds ∙ by (are_one c d) refl (one-among ds s.1)
    where
      rest : ℕ
      rest = sum_by (λ x. cond (are_one c x) (f x) 0) ds

      by : (b : Bool) → are_one c d ≡ b → rest ≡ cond (has cell_order c ds) (f c) 0
          → cond b (f d) 0 + rest ≡ cond (b || has cell_order c ds) (f c) 0
      by false e later = nothing-first rest _ later
      by true e later =
          let same : c ≡ d = order-apart c d (equal_of (cell_order c d) e) in
          let none : rest ≡ 0 =
          none-behind ds (subst (λ (x : Cell). AllByRecursion (λ y. cell_order x y ≡ Less) ds) (sym same) s.0) in
          let own : f d ≡ f c = ap f (sym same) in
          omega (arith, none, own)

sorted-distinct : (cs : List Cell) → IsStrictlySortedBy cell_order (distinct_items cell_order cs)
unfolding distinct_items IsStrictlySortedBy
sorted-distinct [] = tt
sorted-distinct (c ∷ cs) = sorted-with_item cell_order order-total c (distinct_items cell_order cs) (sorted-distinct cs)

-- ---- sums of sums

cells-of-map : (f : Cell → ℕ) (ds : List Cell) → cells_of_counts (map (λ c. (c, f c)) ds) ≡ ds
cells-of-map f [] = refl
cells-of-map f (d ∷ ds) = ap (λ r. d ∷ r) (cells-of-map f ds)

sum-of-map : (f : Cell → ℕ) (ds : List Cell) (c : Cell)
    → sum_of_counts (map (λ d. (d, f d)) ds) c ≡ sum_by (λ d. cond (are_one c d) (f d) 0) ds
sum-of-map f [] c = refl
sum-of-map f (d ∷ ds) c =
    sum-cons (d, f d) (map (λ d. (d, f d)) ds) c ∙ ap (λ n. cond (are_one c d) (f d) 0 + n) (sum-of-map f ds c)
    ∙ sym (sum_by-cons (λ (x : Cell). cond (are_one c x) (f x) 0) d ds)

-- sums hold the same cells
has-sums : (ps : List (Cell × ℕ)) (c : Cell)
    → has cell_order c (cells_of_counts (sums_of_counts ps)) ≡ has cell_order c (cells_of_counts ps)
unfolding sums_of_counts
has-sums ps c =
    ap (has cell_order c) (cells-of-map (sum_of_counts ps) (distinct_items cell_order (cells_of_counts ps)))
    ∙ has-distinct cell_order order-total c (cells_of_counts ps)

-- with the same sum of each
sum-sums : (ps : List (Cell × ℕ)) (c : Cell) → sum_of_counts (sums_of_counts ps) c ≡ sum_of_counts ps c
unfolding sums_of_counts
sum-sums ps c =
    let ds = distinct_items cell_order (cells_of_counts ps) in
    sum-of-map (sum_of_counts ps) ds c ∙ one-among (sum_of_counts ps) c ds (sorted-distinct (cells_of_counts ps))
    ∙ ap (λ b. cond b (sum_of_counts ps c) 0) (has-distinct cell_order order-total c (cells_of_counts ps))
    ∙ by (has cell_order c (cells_of_counts ps)) refl
  where
    by : (b : Bool) → has cell_order c (cells_of_counts ps) ≡ b → cond b (sum_of_counts ps c) 0 ≡ sum_of_counts ps c
    by true e = refl
    by false e = sym (sum-none ps c e)

-- sums of two lists of counts, of which the first may be summed already
sums-front : (ps qs rs ss : List (Cell × ℕ)) → sums_of_counts ps ≡ sums_of_counts qs → sums_of_counts rs ≡ sums_of_counts ss
    → sums_of_counts (ps ++ rs) ≡ sums_of_counts (qs ++ ss)
sums-front ps qs rs ss e f =
    same-sums (ps ++ rs) (qs ++ ss)
    (λ c. has-both ps rs c
    ∙ ap₂ (λ a b. a || b)
    (sym (has-sums ps c) ∙ ap (λ xs. has cell_order c (cells_of_counts xs)) e ∙ has-sums qs c)
    (sym (has-sums rs c) ∙ ap (λ xs. has cell_order c (cells_of_counts xs)) f ∙ has-sums ss c)
    ∙ sym (has-both qs ss c))
    (λ c. sum-both ps rs c
    ∙ ap₂ (λ m n. m + n)
    (sym (sum-sums ps c) ∙ ap (λ xs. sum_of_counts xs c) e ∙ sum-sums qs c)
    (sym (sum-sums rs c) ∙ ap (λ xs. sum_of_counts xs c) f ∙ sum-sums ss c)
    ∙ sym (sum-both qs ss c))

-- sums are their own sums
sums-again : (ps : List (Cell × ℕ)) → sums_of_counts (sums_of_counts ps) ≡ sums_of_counts ps
sums-again ps = same-sums (sums_of_counts ps) ps (has-sums ps) (sum-sums ps)

-- ---- counts of cells

-- a cell that stands once
once : Cell → Cell × ℕ
once c = (c, 1)

cells-once : (cs : List Cell) → cells_of_counts (map once cs) ≡ cs
unfolding once
cells-once [] = refl
cells-once (c ∷ cs) = ap (λ r. c ∷ r) (cells-once cs)

count-once : (cs : List Cell) (c : Cell) → count_by (are_one c) cs ≡ sum_of_counts (map once cs) c
unfolding once
count-once [] c = refl
count-once (d ∷ cs) c =
    sum_by-cons (λ (x : Cell). cond (are_one c x) 1 0) d cs
    ∙ ap (λ n. cond (are_one c d) 1 0 + n) (count-once cs c)
    ∙ sym (sum-cons (d, 1) (map once cs) c)

-- the counts of cells are the sums of what counts each place of theirs once
counts-once : (cs : List Cell) → counts_of_cells cs ≡ sums_of_counts (map once cs)
unfolding counts_of_cells sums_of_counts
counts-once cs =
    λ i. map (λ (c : Cell). (c, count-once cs c i)) (distinct_items cell_order (sym (cells-once cs) i))

-- The counts of cells that stand in parts are the sums of the parts' counts.
pub counts-of-parts : {A : Type 0} (cells : A → List Cell) (ts : List A)
    → counts_of_cells (flat_map cells ts) ≡ sums_of_counts (flat_map (λ t. counts_of_cells (cells t)) ts)
counts-of-parts cells [] = counts-once []
counts-of-parts cells (t ∷ ts) =
    counts-once (cells t ++ flat_map cells ts)
    ∙ ap sums_of_counts (map-append once (cells t) (flat_map cells ts))
    ∙ sums-front (map once (cells t)) (counts_of_cells (cells t)) (map once (flat_map cells ts))
    (flat_map (λ t. counts_of_cells (cells t)) ts)
    (sym (ap sums_of_counts (counts-once (cells t)) ∙ sums-again (map once (cells t))))
    (sym (counts-once (flat_map cells ts)) ∙ counts-of-parts cells ts)
