-- Keys of rows that stand for the rows' first cells.
use Rattle.std.proofs.Common.{◌≡◌, ℕ, zero, suc, ◌+◌, List, [], ◌∷◌, map, refl, sym, ◌∙◌, ap, subst, arith, replicate}
use Rattle.std.specs.Prelude.{Option, None, IfSome, slice_get, slice_index_or, unwrap_or}
use Rattle.std.specs.List.{AllByRecursion, AllZip}
use Rattle.col_model.specs.Table.{Cell}
use Rattle.col_model.proofs.ListLaws.{all-two}
use Rattle.col_sort.specs.Firsts.{first_keys}
use Rattle.col_sort_rows.specs.Keys.{rows_from, rows_of_all}
use Rattle.col_sort.proofs.CellLemmas.{AgreesAs}

module _ {K : Type 0} (R : Cell → K → Type 0) (cell : ℕ × ℕ → Option Cell) where
  -- the first cells of a segment's rows
  rows-agree-from : (n r : ℕ) (cs : List (Option Cell)) (ks : List (Option K))
      → ((i : ℕ) → cell (n, r + i) ≡ slice_index_or cs i None) → AllZip (AgreesAs R) cs ks
      → AllByRecursion (λ z. AgreesAs R (cell z.0) z.1) (rows_from n r ks)
  unfolding rows_from
  rows-agree-from n r [] [] at all = tt
  rows-agree-from n r [] (k ∷ ks) at all = absurd all
  rows-agree-from n r (c ∷ cs) [] at all = absurd all
  rows-agree-from n r (c ∷ cs) (k ∷ ks) at all =
      let here : r ≡ r + 0 = omega arith in
      let more = λ (i : ℕ). (let e : r + 1 + i ≡ r + suc i = omega arith in e) in (
        subst (λ c. AgreesAs R c k) (sym (ap (λ d. cell (n, d)) here ∙ at 0)) all.0,
        rows-agree-from n (r + 1) cs ks (λ i. ap (λ d. cell (n, d)) (more i) ∙ at (suc i)) all.1,
      )

  -- the first cells of all rows
  pub rows-agree : (n : ℕ) (css : List (List (Option Cell))) (kss : List (List (Option K)))
      → ((j i : ℕ) → cell (n + j, i) ≡ slice_index_or (slice_index_or css j []) i None)
      → AllZip (λ cs ks. AllZip (AgreesAs R) cs ks) css kss
      → AllByRecursion (λ z. AgreesAs R (cell z.0) z.1) (rows_of_all n kss)
  unfolding rows_of_all
  rows-agree n [] [] at all = tt
  rows-agree n [] (ks ∷ kss) at all = absurd all
  rows-agree n (cs ∷ css) [] at all = absurd all
  rows-agree n (cs ∷ css) (ks ∷ kss) at all =
      let here : n ≡ n + 0 = omega arith in
      let first = λ (i : ℕ). (let e : 0 + i ≡ i = omega arith in e) in
      let more = λ (j : ℕ). (let e : n + 1 + j ≡ n + suc j = omega arith in e) in
      all-two (λ z. AgreesAs R (cell z.0) z.1) (rows_from n 0 ks) (rows_of_all (n + 1) kss)
      (rows-agree-from n 0 cs ks (λ i. (λ t. cell (here t, first i t)) ∙ at 0 i) all.0)
      (rows-agree (n + 1) css kss (λ j i. ap (λ m. cell (m, i)) (more j) ∙ at (suc j) i) all.1)

-- keys of values stand for the first cells of rows
pub firsts-agree : {T K : Type 0} (R : Cell → K → Type 0) (cell : T → Cell) (key : T → K)
    → ((v : T) → R (cell v) (key v)) → (rows : List (List T))
    → AllZip (AgreesAs R) (map (λ row. slice_get row 0) (map (map cell) rows)) (first_keys key rows)
unfolding AgreesAs first_keys
firsts-agree R cell key law [] = tt
firsts-agree R cell key law ([] ∷ rows) = (tt, firsts-agree R cell key law rows)
firsts-agree R cell key law ((v ∷ vs) ∷ rows) = (law v, firsts-agree R cell key law rows)

-- the same where values are some of a kind
pub firsts-agree-within : {T K : Type 0} (R : Cell → K → Type 0) (cell : T → Cell) (key : T → K) (P : T → Type 0)
    → ((v : T) → P v → R (cell v) (key v)) → (rows : List (List T))
    → AllByRecursion (λ row. IfSome (slice_get row 0) P) rows
    → AllZip (AgreesAs R) (map (λ row. slice_get row 0) (map (map cell) rows)) (first_keys key rows)
unfolding AgreesAs first_keys
firsts-agree-within R cell key P law [] all = tt
firsts-agree-within R cell key P law ([] ∷ rows) all = (tt, firsts-agree-within R cell key P law rows all.1)
firsts-agree-within R cell key P law ((v ∷ vs) ∷ rows) all = (law v all.0, firsts-agree-within R cell key P law rows all.1)

-- no keys stand for no cells
pub none-agree : {K : Type 0} (R : Cell → K → Type 0) (n : ℕ) → AllZip (AgreesAs R) (replicate n None) (replicate n None)
unfolding AgreesAs
none-agree R zero = tt
none-agree R (suc n) = (tt, none-agree R n)

-- the first item of a row, where the row is one of some
pub first-at : {T : Type 0} (rows : List (List T)) (i : ℕ)
    → slice_get (unwrap_or (slice_get rows i) []) 0 ≡ slice_index_or (map (λ row. slice_get row 0) rows) i None
first-at [] i = refl
first-at (row ∷ rows) zero = refl
first-at (row ∷ rows) (suc i) = first-at rows i

-- none at each place
pub none-at : {T : Type 0} (n i : ℕ) → slice_index_or (replicate {A = Option T} n None) i None ≡ None
none-at zero i = refl
none-at (suc n) zero = refl
none-at (suc n) (suc i) = none-at n i
