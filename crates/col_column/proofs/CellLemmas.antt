-- Rows of values and rows of cells.
use Rattle.std.proofs.Common.{◌≡◌, ◌∙◌, ℕ, ◌&&◌, ◌||◌, nat_lt, nat_le, Bool, List, [], ◌∷◌, length, filter, map, slice_get, unwrap_or, option_map, Option, Some, None, refl, sym, ap, ap₂, drop}
use Rattle.std.specs.List.{list_any, range_with_len}
use Rattle.std.specs.declared.cmp.Ordering.{Ordering}
use Rattle.std.proofs.lemmas.List.{length-map, take-map, drop-map}
use Rattle.std.proofs.lemmas.List.Elements.{filter_agree}
use Rattle.std.proofs.lemmas.Option.{slice_get-map}
use Rattle.col_model.specs.Lookup as lookup
use Rattle.col_model.specs.Table.{Cell}
use Rattle.col_model.specs.Dictionary.{cut}
use Rattle.col_values.specs.Values as values
use Rattle.col_types.specs.Cells.{AreCells}
use Rattle.col_column.specs.Columns.{rows_by, row_at}
use Rattle.col_column.specs.Laws.{LookupsAreThoseOfCells}
use Rattle.col_column.specs.Lookups.{docs_passing}

any-map : {A B : Type 0} (f : A → B) (p : A → Bool) (q : B → Bool) → ((x : A) → q (f x) ≡ p x) → (xs : List A)
    → list_any q (map f xs) ≡ list_any p xs
any-map f p q same [] = refl
any-map f p q same (x ∷ xs) = ap₂ (λ a b. a || b) (same x) (any-map f p q same xs)

-- a row of mapped rows is the row there, mapped
pub row-map : {A B : Type 0} (f : A → B) (rows : List (List A)) (d : ℕ) → row_at (map (map f) rows) d ≡ map f (row_at rows d)
row-map {A = A} f rows d = ap (λ o. unwrap_or o []) (slice_get-map (map f) rows d) ∙ by (slice_get rows d)
  where
    by : (o : Option (List A)) → unwrap_or (option_map (map f) o) [] ≡ map f (unwrap_or o [])
    by None = refl
    by (Some row) = refl

-- a lookup by values is one by cells
pub by_cells : {T : Type 0} (partial_cmp : T → T → Option Ordering) (cell : T → Cell) → AreCells partial_cmp cell
    → LookupsAreThoseOfCells partial_cmp cell
unfolding docs_passing lookup.docs_between
by_cells partial_cmp cell cells terms s xs low high from to =
    let rows = rows_by s xs in
    let alike : (d : ℕ) → list_any (values.is_between partial_cmp low high) (row_at rows d) ≡ list_any
    (lookup.is_between (cell low) (cell high)) (row_at (map (map cell) rows) d) =
    λ d. sym (ap (list_any (lookup.is_between (cell low) (cell high))) (row-map cell rows d)
    ∙ any-map cell (values.is_between partial_cmp low high) (lookup.is_between (cell low) (cell high))
    (λ v. ap₂ (λ a b. a && b) (cells.at_most low v) (cells.at_most v high)) (row_at rows d))
    in
    filter_agree _ _ (λ d. ap (λ b. nat_le from d && nat_lt d to && b) (alike d)) (range_with_len 0 (length rows))
    ∙ ap (λ n. filter (λ d. nat_le from d && nat_lt d to
    && list_any (lookup.is_between (cell low) (cell high)) (row_at (map (map cell) rows) d))
    (range_with_len 0 n)) (sym (length-map rows (map cell)))

-- rows of values that are turned
pub cut-map : {A B : Type 0} (f : A → B) (cs : List ℕ) (xs : List A) → cut cs (map f xs) ≡ map (map f) (cut cs xs)
unfolding cut
cut-map f [] xs = refl
cut-map f (c ∷ cs) xs = ap₂ (λ a b. a ∷ b) (take-map f c xs) (ap (cut cs) (drop-map f c xs) ∙ cut-map f cs (drop c xs))
