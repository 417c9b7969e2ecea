-- Tables of counts: what stands where is counted is the facets of what was counted.
use Rattle.std.proofs.Common.{◌≡◌, ℕ, zero, suc, ◌+◌, ◌<◌, ◌≤◌, ◌==◌, Bool, true, false, cond, not, ◌||◌, List, [], ◌∷◌, ◌++◌, map, drop, length, get_or, refl, sym, ◌∙◌, ap, ap₂, arith, append_assoc, add-one}
use Rattle.std.specs.List.{AllByRecursion, count_by}
use Rattle.std.specs.declared.cmp.Ordering.TheVariants.{Less}
use Rattle.std.specs.Ordering.{is_lt}
use Rattle.std.proofs.Math.Seq.{drop-cons}
use Rattle.std.proofs.Math.ListN.{drop_of_length-le}
use Rattle.std.proofs.lemmas.List.{append-nil}
use Rattle.std.proofs.lemmas.Bool.{eqb-true, eqb-false, ne_eqb, and_from}
use Rattle.std.proofs.lemmas.List.Sums.{sum_by-cons}
use Rattle.col_model.proofs.DistinctLaws.{has}
use Rattle.col_facet.specs.Cells.{cell_cmp, cells_total}
use Rattle.col_facet.specs.Facets.{totals_of, facets_of, counted_cells, summed_count, same_cell, are_ascending}
use Rattle.col_facet.specs.Tables.{counted_from, AreRising}
use Rattle.col_facet.specs.declared.facet_cell.FacetCell.{FacetCell}
use Rattle.col_facet.specs.declared.facet_cell.FacetCount.{FacetCount}
use Rattle.col_facet.proofs.OrderLemmas.{cells-apart}
use Rattle.col_facet.proofs.TotalLemmas.{IsFirst, totals-same}
use Rattle.col_facet.proofs.MergeLemmas.{totals-own}
use Rattle.col_facet.proofs.RunLemmas.{once, facets-totals}

-- a place, and those behind it
counted-split : (cell : ℕ → FacetCell) (at n : ℕ) (ns : List ℕ) → counted_from cell at (n ∷ ns)
    ≡ cond (n == 0) [] (record { cell = cell at; count = n } ∷ []) ++ counted_from cell (suc at) ns
unfolding counted_from
counted-split cell at n ns = go (n == 0)
  where
    go : (b : Bool) → cond b (counted_from cell (suc at) ns) (record { cell = cell at; count = n } ∷ counted_from cell (suc at) ns)
        ≡ cond b [] (record { cell = cell at; count = n } ∷ []) ++ counted_from cell (suc at) ns
    go true = refl
    go false = refl

-- a step of a walk over places
pub counted-step : (cell : ℕ → FacetCell) (counts : List ℕ) (at : ℕ) (found new all : List FacetCount) → at < length counts
    → found ++ counted_from cell at (drop at counts) ≡ all
    → new ≡ found ++ cond (get_or counts at 0 == 0) [] (record { cell = cell at; count = get_or counts at 0 } ∷ [])
    → new ++ counted_from cell (at + 1) (drop (at + 1) counts) ≡ all
counted-step cell counts at found new all inside so_far more =
    let n = get_or counts at 0 in
    let own : List FacetCount = cond (n == 0) [] (record { cell = cell at; count = n } ∷ []) in
    ap₂ (λ fs k. fs ++ counted_from cell k (drop k counts)) more (add-one at)
    ∙ append_assoc found own (counted_from cell (suc at) (drop (suc at) counts))
    ∙ ap (λ fs. found ++ fs) (sym (counted-split cell at n (drop (suc at) counts))
    ∙ ap (counted_from cell at) (sym (drop-cons counts at 0 inside)))
    ∙ so_far

-- the end of such a walk
pub counted-end : (cell : ℕ → FacetCell) (counts : List ℕ) (at : ℕ) (found all : List FacetCount) → length counts ≤ at
    → found ++ counted_from cell at (drop at counts) ≡ all → found ≡ all
unfolding counted_from
counted-end cell counts at found all h so_far =
    sym (append-nil found) ∙ ap (λ ns. found ++ counted_from cell at ns) (sym (drop_of_length-le counts h)) ∙ so_far

-- the values of a function at so many places from one on
unfoldable spread : (ℕ → ℕ) → ℕ → ℕ → List ℕ
spread g at zero = []
spread g at (suc m) = g at ∷ spread g (suc at) m

-- a list that has a function's values at its places
spread-is : (g : ℕ → ℕ) (at : ℕ) (ns : List ℕ) → ((i : ℕ) → i < length ns → get_or ns i 0 ≡ g (at + i)) → ns ≡ spread g at (length ns)
unfolding spread
spread-is g at [] h = refl
spread-is g at (n ∷ ns) h =
    let here : at + 0 ≡ at = omega arith in
    ap₂ (λ m ms. m ∷ ms) (h 0 (omega arith) ∙ ap g here)
    (spread-is g (suc at) ns (λ i l. h (suc i) (omega (arith, l)) ∙ ap g (further at i)))
  where
    further : (at i : ℕ) → at + suc i ≡ suc at + i
    further at i = omega arith

-- how often a cell stands by a table of counts
unfoldable weight : (ℕ → FacetCell) → ℕ → List ℕ → FacetCell → ℕ
weight cell at [] c = 0
weight cell at (n ∷ ns) c = cond (same_cell c (cell at)) n 0 + weight cell (suc at) ns c

count-cons : (f : FacetCount) (fs : List FacetCount) (c : FacetCell)
    → summed_count (f ∷ fs) c ≡ cond (same_cell c f.cell) f.count 0 + summed_count fs c
count-cons f fs c = sum_by-cons (λ (g : FacetCount). cond (same_cell c g.cell) g.count 0) f fs

none : (b : Bool) → ◌≡◌ {A = ℕ} (cond b 0 0) 0
none true = refl
none false = refl

nothing : (b : Bool) (n rest : ℕ) → n ≡ 0 → rest ≡ 0 → cond b n 0 + rest ≡ 0
nothing true n rest e f = omega (arith, e, f)
nothing false n rest e f = omega (arith, f)

sums : (a b rest : ℕ) → a ≡ b → rest ≡ 0 → a + rest ≡ b
sums a b rest e f = omega (arith, e, f)

behind : (b : Bool) (n rest all : ℕ) → n ≡ 0 → rest ≡ all → cond b n 0 + rest ≡ all
behind true n rest all e f = omega (arith, e, f)
behind false n rest all e f = omega (arith, f)

counted-weight : (cell : ℕ → FacetCell) (at : ℕ) (ns : List ℕ) (c : FacetCell)
    → summed_count (counted_from cell at ns) c ≡ weight cell at ns c
unfolding counted_from weight
counted-weight cell at [] c = refl
counted-weight cell at (n ∷ ns) c = go (n == 0) refl (counted-weight cell (suc at) ns c)
  where
    go : (b : Bool) → (n == 0) ≡ b → summed_count (counted_from cell (suc at) ns) c ≡ weight cell (suc at) ns c
        → summed_count (cond b (counted_from cell (suc at) ns) (record { cell = cell at; count = n } ∷ counted_from cell (suc at) ns)) c
        ≡ cond (same_cell c (cell at)) n 0 + weight cell (suc at) ns c
    go true e more =
        let zero_count : 0 ≡ cond (same_cell c (cell at)) n 0 = sym
        (ap (λ k. cond (same_cell c (cell at)) k 0) (eqb-true n 0 e) ∙ none (same_cell c (cell at))) in
        omega (arith, more, zero_count)
    go false e more =
        count-cons (record { cell = cell at; count = n }) (counted_from cell (suc at) ns) c
        ∙ ap (λ k. cond (same_cell c (cell at)) n 0 + k) more

module _ (cell : ℕ → FacetCell) (c : FacetCell) where
  weight-zero : (at m : ℕ) → weight cell at (spread (λ k. 0) at m) c ≡ 0
  unfolding weight spread
  weight-zero at zero = refl
  weight-zero at (suc m) = go (same_cell c (cell at)) (weight-zero (suc at) m)
    where
      go : (b : Bool) → weight cell (suc at) (spread (λ k. 0) (suc at) m) c ≡ 0
          → cond b 0 0 + weight cell (suc at) (spread (λ k. 0) (suc at) m) c ≡ 0
      go true e = omega (arith, e)
      go false e = omega (arith, e)

  weight-sum : (g h : ℕ → ℕ) (at m : ℕ) → weight cell at (spread (λ k. g k + h k) at m) c
      ≡ weight cell at (spread g at m) c + weight cell at (spread h at m) c
  unfolding weight spread
  weight-sum g h at zero = refl
  weight-sum g h at (suc m) = go (same_cell c (cell at)) (weight-sum g h (suc at) m)
    where
      go : (b : Bool) → weight cell (suc at) (spread (λ k. g k + h k) (suc at) m) c
          ≡ weight cell (suc at) (spread g (suc at) m) c + weight cell (suc at) (spread h (suc at) m) c
          → cond b (g at + h at) 0 + weight cell (suc at) (spread (λ k. g k + h k) (suc at) m) c
          ≡ (cond b (g at) 0 + weight cell (suc at) (spread g (suc at) m) c) +
          (cond b (h at) 0 + weight cell (suc at) (spread h (suc at) m) c)
      go true e = omega (arith, e)
      go false e = omega (arith, e)

  weight-before : (o at m : ℕ) → o < at → weight cell at (spread (λ k. cond (o == k) 1 0) at m) c ≡ 0
  unfolding weight spread
  weight-before o at zero h = refl
  weight-before o at (suc m) h =
      let apart : (o == at) ≡ false = ne_eqb o at (λ e. omega (arith, e, h)) in
      nothing (same_cell c (cell at)) (cond (o == at) 1 0) (weight cell (suc at) (spread (λ k. cond (o == k) 1 0) (suc at) m) c)
      (ap (λ b. cond b 1 0) apart) (weight-before o (suc at) m (omega (arith, h)))

  -- one place of one cell
  weight-one : (o at m : ℕ) → at ≤ o → o < at + m
      → weight cell at (spread (λ k. cond (o == k) 1 0) at m) c ≡ cond (same_cell c (cell o)) 1 0
  unfolding weight spread
  weight-one o at zero h l = absurd (omega (arith, h, l))
  weight-one o at (suc m) h l = go (o == at) refl (λ e. weight-one o (suc at) m (above e) (omega (arith, l)))
    where
      above : (o == at) ≡ false → suc at ≤ o
      above e = let apart : o ≡ at → ⊥ = eqb-false o at e in omega (arith, h, apart)

      go : (b : Bool) → (o == at) ≡ b
          → ((o == at) ≡ false → weight cell (suc at) (spread (λ k. cond (o == k) 1 0) (suc at) m) c ≡ cond (same_cell c (cell o)) 1 0)
          → cond (same_cell c (cell at)) (cond (o == at) 1 0) 0 + weight cell (suc at) (spread (λ k. cond (o == k) 1 0) (suc at) m) c
          ≡ cond (same_cell c (cell o)) 1 0
      go true e later =
          let here : o ≡ at = eqb-true o at e in
          let rest = weight-before o (suc at) m (omega (arith, here)) in
          let own = ap (λ b. cond (same_cell c (cell at)) (cond b 1 0) 0) e ∙ ap (λ k. cond (same_cell c (cell k)) 1 0) (sym here) in
          sums (cond (same_cell c (cell at)) (cond (o == at) 1 0) 0) (cond (same_cell c (cell o)) 1 0) _ own rest
      go false e later = behind (same_cell c (cell at)) (cond (o == at) 1 0) _ _ (ap (λ b. cond b 1 0) e) (later e)

-- a table of how often each place stands has the cells of these places
weight-all : (cell : ℕ → FacetCell) (c : FacetCell) (m : ℕ) (ords : List ℕ) → AllByRecursion (λ o. o < m) ords
    → weight cell 0 (spread (λ k. count_by (λ o. o == k) ords) 0 m) c ≡ summed_count (map once (map cell ords)) c
weight-all cell c m [] all = weight-zero cell c 0 m
weight-all cell c m (o ∷ ords) all =
    ap (λ (g : ℕ → ℕ). weight cell 0 (spread g 0 m) c) (λ i k. sum_by-cons (λ (p : ℕ). cond (p == k) 1 0) o ords i)
    ∙ weight-sum cell c (λ k. cond (o == k) 1 0) (λ k. count_by (λ p. p == k) ords) 0 m
    ∙ ap₂ (λ a b. a + b) (weight-one cell c o 0 m (omega arith) (omega (arith, all.0))) (weight-all cell c m ords all.1)
    ∙ sym (count-cons (once (cell o)) (map once (map cell ords)) c)

-- no count is 0
abbrev AreSome : List FacetCount → Type 0
AreSome fs = AllByRecursion (λ f. (f.count == 0) ≡ false) fs

some-counted : (cell : ℕ → FacetCell) (at : ℕ) (ns : List ℕ) → AreSome (counted_from cell at ns)
unfolding counted_from
some-counted cell at [] = tt
some-counted cell at (n ∷ ns) = go (n == 0) refl (some-counted cell (suc at) ns)
  where
    go : (b : Bool) → (n == 0) ≡ b → AreSome (counted_from cell (suc at) ns)
        → AreSome (cond b (counted_from cell (suc at) ns) (record { cell = cell at; count = n } ∷ counted_from cell (suc at) ns))
    go true e rest = rest
    go false e rest = (e, rest)

some-once : (cs : List FacetCell) → AreSome (map once cs)
some-once [] = tt
some-once (c ∷ cs) = (refl, some-once cs)

-- a cell is there where its count isn't 0
has-counts : (fs : List FacetCount) (c : FacetCell) → AreSome fs → has cell_cmp c (counted_cells fs) ≡ not (summed_count fs c == 0)
has-counts [] c all = refl
has-counts (f ∷ fs) c all =
    go (same_cell c f.cell) (has-counts fs c all.1) ∙ ap (λ n. not (n == 0)) (sym (count-cons f fs c))
  where
    go : (b : Bool) → has cell_cmp c (counted_cells fs) ≡ not (summed_count fs c == 0)
        → (b || has cell_cmp c (counted_cells fs)) ≡ not (cond b f.count 0 + summed_count fs c == 0)
    go true e =
        let more : (f.count + summed_count fs c == 0) ≡ false =
        ne_eqb (f.count + summed_count fs c) 0 (λ z. eqb-false f.count 0 all.0 (omega (arith, z))) in
        ap not (sym more)
    go false e = let same : summed_count fs c ≡ 0 + summed_count fs c = omega arith in e ∙ ap (λ n. not (n == 0)) same

-- counts of which none is 0 have the same totals where each cell counts the same
totals-by_counts : (fs gs : List FacetCount) → AreSome fs → AreSome gs → ((c : FacetCell) → summed_count fs c ≡ summed_count gs c)
    → totals_of fs ≡ totals_of gs
unfolding totals_of
totals-by_counts fs gs some more e =
    totals-same cell_cmp cells_total cells-apart fs gs
    (λ c. has-counts fs c some ∙ ap (λ n. not (n == 0)) (e c) ∙ sym (has-counts gs c more)) e

first-counted : (cell : ℕ → FacetCell) (m i at : ℕ) (ns : List ℕ) → AreRising cell m → i < at → at + length ns ≤ m
    → IsFirst cell_cmp (cell i) (counted_cells (counted_from cell at ns))
unfolding counted_from
first-counted cell m i at [] up h l = tt
first-counted cell m i at (n ∷ ns) up h l = go (n == 0) (first-counted cell m i (suc at) ns up (omega (arith, h)) (omega (arith, l)))
  where
    less : cell_cmp (cell i) (cell at) ≡ Less
    less = up i at h (omega (arith, l))

    go : (b : Bool) → IsFirst cell_cmp (cell i) (counted_cells (counted_from cell (suc at) ns))
        → IsFirst cell_cmp (cell i) (counted_cells
        (cond b (counted_from cell (suc at) ns) (record { cell = cell at; count = n } ∷ counted_from cell (suc at) ns)))
    go true rest = rest
    go false rest = (less, rest)

ascending-cons : (f : FacetCount) (fs : List FacetCount) → IsFirst cell_cmp f.cell (counted_cells fs) → are_ascending fs ≡ true
    → are_ascending (f ∷ fs) ≡ true
ascending-cons f [] h up = refl
ascending-cons f (g ∷ fs) h up = and_from (is_lt (cell_cmp f.cell g.cell)) (are_ascending (g ∷ fs)) (ap is_lt h.0) up

ascending-counted : (cell : ℕ → FacetCell) (m at : ℕ) (ns : List ℕ) → AreRising cell m → at + length ns ≤ m
    → are_ascending (counted_from cell at ns) ≡ true
unfolding counted_from
ascending-counted cell m at [] up l = refl
ascending-counted cell m at (n ∷ ns) up l =
    go (n == 0) (ascending-counted cell m (suc at) ns up (omega (arith, l)))
    (first-counted cell m at (suc at) ns up (omega arith) (omega (arith, l)))
  where
    go : (b : Bool) → are_ascending (counted_from cell (suc at) ns) ≡ true
        → IsFirst cell_cmp (cell at) (counted_cells (counted_from cell (suc at) ns))
        → are_ascending (cond b (counted_from cell (suc at) ns) (record { cell = cell at; count = n } ∷ counted_from cell (suc at) ns))
        ≡ true
    go true rest first = rest
    go false rest first = ascending-cons (record { cell = cell at; count = n }) (counted_from cell (suc at) ns) first rest

-- a table of how often places stand, whose cells ascend, gives the facets of the cells of these places
pub table-facets : (cell : ℕ → FacetCell) (ords counts : List ℕ) → AreRising cell (length counts)
    → AllByRecursion (λ o. o < length counts) ords
    → ((i : ℕ) → i < length counts → get_or counts i 0 ≡ count_by (λ o. o == i) ords)
    → counted_from cell 0 counts ≡ facets_of (map cell ords)
table-facets cell ords counts up below told =
    let zero_place : (i : ℕ) → i ≡ 0 + i = λ i. omega arith in
    let is = spread-is (λ k. count_by (λ o. o == k) ords) 0 counts
    (λ i l. told i l ∙ ap (λ k. count_by (λ o. o == k) ords) (zero_place i)) in
    let same : (c : FacetCell) → summed_count (counted_from cell 0 counts) c ≡ summed_count (map once (map cell ords)) c =
    λ c. counted-weight cell 0 counts c ∙ ap (λ ns. weight cell 0 ns c) is ∙ weight-all cell c (length counts) ords below in
    sym (totals-own (counted_from cell 0 counts) (ascending-counted cell (length counts) 0 counts up (omega arith)))
    ∙ totals-by_counts (counted_from cell 0 counts) (map once (map cell ords)) (some-counted cell 0 counts)
    (some-once (map cell ords)) same
    ∙ sym (facets-totals (map cell ords))
