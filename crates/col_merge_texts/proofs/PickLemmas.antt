-- Which places picked rows have.
use Rattle.std.proofs.Common.{◌≡◌, ◌⊎◌, ℕ, zero, suc, ◌<◌, nat_lt, true, false, List, [], ◌∷◌, map, length, take, drop, is_some, unwrap_or, option_map, Some, slice_get, refl, sym, ap, ◌∙◌, subst, inl, inr, arith}
use Rattle.std.specs.List.{AllByRecursion, list_all}
use Rattle.std.proofs.lemmas.Bool.{true≢false, and_parts}
use Rattle.std.proofs.lemmas.Option.{slice_get-map}
use Rattle.col_model.specs.Dictionary.{cut}
use Rattle.col_model.specs.Index.{Shape, empty_shape}
use Rattle.col_model.specs.Order.{Order, stack, shuffle, has_row}
use Rattle.col_column.specs.Columns.{counts_by, rows_by, row_at, num_docs_in, rows_of_values}
use Rattle.col_numbers.specs.NumValues.{num_values_of}
use Rattle.col_text.specs.Texts.{Texts}
use Rattle.col_merge_texts.specs.Items.{terms_of, item_at, IsAmong}
use Rattle.col_merge_texts.proofs.AmongLemmas.{in-all}
use Rattle.col_merge_values.specs.Merges.{picked_row}
use Rattle.col_merge_values.specs.TermColumns.{ords_of, term_columns}
use Rattle.col_merge_texts.specs.Taking.{AreTold, Place, IsPlace, IsPicked, IsTaken, IsAhead, IsNowhere}

-- ---- the terms of picked rows

in-take : {X : Type 0} (n : ℕ) (xs : List X) (x : X) → IsAmong x (take n xs) → IsAmong x xs
in-take zero xs x i = absurd i
in-take (suc n) [] x i = absurd i
in-take (suc n) (y ∷ xs) x i = elim i [ inl e ↦ inl e | inr rest ↦ inr (in-take n xs x rest) ]

in-drop : {X : Type 0} (n : ℕ) (xs : List X) (x : X) → IsAmong x (drop n xs) → IsAmong x xs
in-drop zero xs x i = i
in-drop (suc n) [] x i = absurd i
in-drop (suc n) (y ∷ xs) x i = inr (in-drop n xs x i)

in-cut : {X : Type 0} (cs : List ℕ) (xs : List X) (d : ℕ) (x : X) → IsAmong x (unwrap_or (slice_get (cut cs xs) d) []) → IsAmong x xs
unfolding cut
in-cut [] xs d x i = absurd i
in-cut (c ∷ cs) xs zero x i = in-take c xs x i
in-cut (c ∷ cs) xs (suc d) x i = in-drop c xs x (in-cut cs (drop c xs) d x i)

-- what a row has is one of the values
pub in-row : {X : Type 0} (s : Shape) (xs : List X) (d : ℕ) (x : X) → IsAmong x (row_at (rows_by s xs) d) → IsAmong x xs
unfolding rows_by
in-row s xs d x i = in-cut (counts_by s (length xs)) xs d x i

some-below : {X : Type 0} (xs : List X) (i : ℕ) → i < length xs → is_some (slice_get xs i) ≡ true
some-below [] i h = absurd (omega (arith, h))
some-below (x ∷ xs) zero h = refl
some-below (x ∷ xs) (suc i) h = some-below xs i (omega (arith, h))

picked-below : (columns : List Texts) (k d o : ℕ) → AllByRecursion AreTold columns
    → IsAmong o (picked_row (term_columns columns) (k, d)) → is_some (item_at (terms_of columns) (k, o)) ≡ true
picked-below [] k d o told i = absurd (in-row {X = ℕ} (empty_shape 0) [] d o i)
picked-below (c ∷ cs) zero d o told i =
    some-below c.terms o
    (in-all (λ n. n < length c.terms) o (ords_of c) (in-row c.ords.shape (ords_of c) d o i) told.0.ordinals.below)
picked-below (c ∷ cs) (suc k) d o told i = picked-below cs k d o told.1 i

-- places of picked rows have terms
pub picked-there : (columns : List Texts) (rows : List (ℕ × ℕ)) → AllByRecursion AreTold columns → (p : Place)
    → IsPicked columns rows p → IsPlace columns p
picked-there columns rows told p i =
    ap (λ s. is_some (item_at (terms_of columns) (s, p.1))) i.segment ∙ picked-below columns i.row.0 i.row.1 p.1 told i.held

-- so have those that an order takes
pub taken-there : (columns : List Texts) (order : Order) → AllByRecursion AreTold columns → (p : Place)
    → IsTaken columns order p → IsPlace columns p
taken-there columns (stack counts) told p w = w
taken-there columns (shuffle counts rows) told p w = picked-there columns rows told p w

-- a row of a column
pub picked-is : (columns : List Texts) (k d : ℕ) (c : Texts) → slice_get columns k ≡ Some c
    → picked_row (term_columns columns) (k, d) ≡ row_at (rows_of_values num_values_of c.ords) d
picked-is [] k d c e = cc
picked-is (b ∷ cs) zero d c e =
    let same : b ≡ c = (let f : Some b ≡ Some c = e in cc) in
    ap (λ (a : Texts). row_at (rows_of_values num_values_of a.ords) d) same
picked-is (b ∷ cs) (suc k) d c e = picked-is cs k d c e

-- the first of the rows that are left
pub ahead-start : (columns : List Texts) (row : ℕ × ℕ) (rows : List (ℕ × ℕ)) (q : Place)
    → IsPicked columns (row ∷ rows) q → IsAhead columns row.0 (picked_row (term_columns columns) row) rows q
ahead-start columns row rows q i = elim i.named [
  | inl e ↦ inl (i.segment ∙ ap (λ (r : ℕ × ℕ). r.0) e, subst (λ (r : ℕ × ℕ). IsAmong q.1 (picked_row (term_columns columns) r)) e i.held)
  | inr rest ↦ inr (record { row = i.row; named = rest; segment = i.segment; held = i.held })
]

-- one ordinal less is left
pub ahead-more : (columns : List Texts) (segment o : ℕ) (ords : List ℕ) (rows : List (ℕ × ℕ)) (q : Place)
    → IsAhead columns segment (o ∷ ords) rows q → (q ≡ (segment, o)) ⊎ IsAhead columns segment ords rows q
ahead-more columns segment o ords rows q a = elim a [
  | inl here ↦ elim here.1 [ inl e ↦ inl (λ i. (here.0 i, e i)) | inr rest ↦ inr (inl (here.0, rest)) ]
  | inr later ↦ inr (inr later)
]

-- behind the last one, later rows are left
pub ahead-end : (columns : List Texts) (segment : ℕ) (rows : List (ℕ × ℕ)) (q : Place)
    → IsAhead columns segment [] rows q → IsPicked columns rows q
ahead-end columns segment rows q a = elim a [ inl here ↦ absurd here.1 | inr later ↦ later ]

-- and behind the last row none
pub picked-none : (columns : List Texts) (q : Place) → IsPicked columns [] q → IsNowhere q
picked-none columns q i = i.named

-- ---- rows that an order names

-- the number of rows of each column
abbrev pub row_counts_of : List Texts → List ℕ
row_counts_of columns = map (λ (c : Texts). num_docs_in num_values_of c.ords) columns

-- a row that an order names is one of its segment's column
pub named-row : (columns : List Texts) (counts : List ℕ) (rows : List (ℕ × ℕ)) (i : ℕ) (a : ℕ × ℕ)
    → row_counts_of columns ≡ counts → list_all (has_row counts) rows ≡ true → slice_get rows i ≡ Some a
    → has_row (row_counts_of columns) a ≡ true
named-row columns counts rows i a fit all e = ap (λ cs. has_row cs a) fit ∙ at rows i all e
  where
    at : (rs : List (ℕ × ℕ)) (k : ℕ) → list_all (has_row counts) rs ≡ true → slice_get rs k ≡ Some a → has_row counts a ≡ true
    at [] k all e = cc
    at (r ∷ rs) zero all e =
        let same : r ≡ a = (let f : Some r ≡ Some a = e in cc) in
        ap (has_row counts) (sym same) ∙ (and_parts (has_row counts r) (list_all (has_row counts) rs) all).0
    at (r ∷ rs) (suc k) all e = at rs k (and_parts (has_row counts r) (list_all (has_row counts) rs) all).1 e

-- so its segment has a column
pub row-segment : (columns : List Texts) (a : ℕ × ℕ) → has_row (row_counts_of columns) a ≡ true → a.0 < length columns
row-segment columns a e = go columns a.0 e
  where
    go : (cs : List Texts) (k : ℕ) → has_row (row_counts_of cs) (k, a.1) ≡ true → k < length cs
    go [] k f = absurd (true≢false (sym f))
    go (c ∷ cs) zero f = omega arith
    go (c ∷ cs) (suc k) f = let more = go cs k f in omega (arith, more)

-- which has the row
pub row-within : (columns : List Texts) (a : ℕ × ℕ) (c : Texts) → slice_get columns a.0 ≡ Some c
    → has_row (row_counts_of columns) a ≡ true → a.1 < num_docs_in num_values_of c.ords
row-within columns a c e f =
    below a.1 (num_docs_in num_values_of c.ords) (sym (ap (λ o. unwrap_or (option_map (λ n. nat_lt a.1 n) o) false)
    (slice_get-map (λ (d : Texts). num_docs_in num_values_of d.ords) columns a.0
    ∙ ap (option_map (λ (d : Texts). num_docs_in num_values_of d.ords)) e)) ∙ f)
  where
    below : (b n : ℕ) → nat_lt b n ≡ true → b < n
    below b n t = grind arith
