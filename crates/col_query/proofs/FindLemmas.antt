-- Lookups over all documents, and the documents with a value.
use Rattle.std.proofs.Common.{◌≡◌, ℕ, zero, suc, ◌<◌, ◌==◌, ◌&&◌, Bool, true, not, List, [], ◌∷◌, length, take, drop, map, get_or, slice_get, sum, nat_lt, ltb, leb, Result, IfOk, refl, sym, ap, ◌∙◌, subst, arith}
use Rattle.std.specs.List.{filter, list_any, range_with_len}
use Rattle.std.specs.declared.alloc.AllocError.{AllocError}
use Rattle.std.proofs.lemmas.Bool.{lt-ltb, le-leb, ne_eqb}
use Rattle.std.proofs.lemmas.List.{length-map, length-take, length-drop}
use Rattle.col_column.specs.Columns.{IsCounted, content_seen, row_at, row_count, rows_by}
use Rattle.col_column.proofs.CellLemmas.{row-map}
use Rattle.col_column.proofs.FirstLemmas.{length-rows}
use Rattle.col_column.proofs.RowLemmas.{row_at-cut, row-empty, single, one, end-within}
use Rattle.col_model.specs.Index.{Shape, empty_shape, full_shape, optional_shape, multivalued_shape}
use Rattle.col_model.specs.Lookup.{docs_between, is_between, row_of}
use Rattle.col_model.specs.Positions.{count_in, start_of}
use Rattle.col_model.specs.Table.{Cell, Content}
use Rattle.col_query.specs.Sets.{docs_where, IsSetOf}
use Rattle.col_query.specs.declared.doc_set.DocSet.{DocSet}
use Rattle.col_query.proofs.LeafLemmas.{ok_then}
use Rattle.col_query.proofs.SetLemmas.{same_docs}
use Rattle.col_query.proofs.StackLemmas.{set_agrees}

-- a lookup over all documents
pub looked_up : (c : Content) (lo hi : Cell) (n : ℕ) → length c.rows ≡ n
    → docs_between c lo hi 0 n ≡ docs_where (λ d. list_any (is_between lo hi) (row_of c d)) n
unfolding docs_between
looked_up c lo hi n long =
    let any : ℕ → Bool = λ d. list_any (is_between lo hi) (row_of c d) in
    let test : ℕ → Bool = λ d. leb 0 d && ltb d n && any d in
    ap (λ m. filter test (range_with_len 0 m)) long
    ∙ same_docs test any n (λ d h. ap (λ v. v && ltb d n && any d) (le-leb 0 d (omega arith))
    ∙ ap (λ v. v && any d) (lt-ltb d n h))

-- ---- documents with a value

some-count : (c : ℕ) → not (c == 0) ≡ nat_lt 0 c
some-count zero = refl
some-count (suc c) = ap not (ne_eqb (suc c) 0 (λ e. omega (arith, e))) ∙ sym (lt-ltb 0 (suc c) (omega arith))

one-there : {T : Type 0} (xs : List T) (d : ℕ) → d < length xs → nat_lt 0 (length (one (slice_get xs d))) ≡ true
one-there [] d h = absurd (omega (arith, h))
one-there (x ∷ xs) zero h = refl
one-there (x ∷ xs) (suc d) h = one-there xs d (omega (arith, h))

-- a row of a cut list is as long as its count says
cut-length : {T : Type 0} (cs : List ℕ) (xs : List T) (d : ℕ) → length xs ≡ sum cs
    → length (take (get_or cs d 0) (drop (start_of cs d) xs)) ≡ get_or cs d 0
cut-length cs xs d all =
    length-take (get_or cs d 0) (drop (start_of cs d) xs)
    ∙ omega (arith, length-drop (start_of cs d) xs, end-within cs d, all)

cut-held : {T : Type 0} (cs : List ℕ) (xs : List T) (d : ℕ) → sum cs ≡ length xs
    → not (get_or cs d 0 == 0) ≡ nat_lt 0 (length (take (get_or cs d 0) (drop (start_of cs d) xs)))
cut-held cs xs d all = some-count (get_or cs d 0) ∙ ap (nat_lt 0) (sym (cut-length cs xs d (sym all)))

-- a row has a value exactly where the shape counts one
counted-held : {T : Type 0} (s : Shape) (xs : List T) (d : ℕ) → IsCounted s (length xs) → d < row_count s (length xs)
    → not (count_in s d == 0) ≡ nat_lt 0 (length (row_at (rows_by s xs) d))
unfolding rows_by
counted-held (empty_shape m) xs d counted inside = sym (ap (λ row. nat_lt 0 (length row)) (row-empty m xs d))
counted-held full_shape xs d counted inside =
    sym (ap (λ row. nat_lt 0 (length row)) (single xs d) ∙ one-there xs d inside)
counted-held (optional_shape cs) xs d counted inside =
    cut-held cs xs d counted ∙ sym (ap (λ row. nat_lt 0 (length row)) (row_at-cut cs xs d))
counted-held (multivalued_shape cs) xs d counted inside =
    cut-held cs xs d counted ∙ sym (ap (λ row. nat_lt 0 (length row)) (row_at-cut cs xs d))

-- the documents of which an index counts a value are those whose rows have one
pub docs-held : {T : Type 0} (own s : Shape) (xs : List T) (m : ℕ) (r : Result DocSet AllocError) → own ≡ s
    → IsCounted s (length xs)
    → ((n : ℕ) → row_count own n ≡ m → IfOk r (IsSetOf m (λ d. not (count_in own d == 0))))
    → length (rows_by s xs) ≡ m → IfOk r (IsSetOf m (λ d. nat_lt 0 (length (row_at (rows_by s xs) d))))
docs-held own s xs m r same counted found long =
    let rows : row_count s (length xs) ≡ m = sym (length-rows s xs) ∙ long in
    let told : IfOk r (IsSetOf m (λ d. not (count_in s d == 0))) =
    subst (λ s. (n : ℕ) → row_count s n ≡ m → IfOk r (IsSetOf m (λ d. not (count_in s d == 0)))) same found (length xs) rows in
    ok_then (IsSetOf m (λ d. not (count_in s d == 0))) (IsSetOf m (λ d. nat_lt 0 (length (row_at (rows_by s xs) d)))) r
    (λ set is. set_agrees m (λ d. not (count_in s d == 0)) (λ d. nat_lt 0 (length (row_at (rows_by s xs) d))) set
    (λ d below. counted-held s xs d counted (omega (arith, below, rows))) is) told

-- the same, by the cells of a column
pub cells-held : {T : Type 0} (terms : List (List ℕ)) (cell : T → Cell) (s : Shape) (xs : List T) (m : ℕ)
    (r : Result DocSet AllocError)
    → (length (rows_by s xs) ≡ m → IfOk r (IsSetOf m (λ d. nat_lt 0 (length (row_at (rows_by s xs) d)))))
    → length (content_seen terms cell s xs).rows ≡ m
    → IfOk r (IsSetOf m (λ d. nat_lt 0 (length (row_of (content_seen terms cell s xs) d))))
cells-held terms cell s xs m r found long =
    let rows = rows_by s xs in
    ok_then (IsSetOf m (λ d. nat_lt 0 (length (row_at rows d))))
    (IsSetOf m (λ d. nat_lt 0 (length (row_of (content_seen terms cell s xs) d)))) r
    (λ set is. set_agrees m (λ d. nat_lt 0 (length (row_at rows d)))
    (λ d. nat_lt 0 (length (row_of (content_seen terms cell s xs) d))) set
    (λ d below. sym (ap (λ row. nat_lt 0 (length row)) (row-map cell rows d)
    ∙ ap (nat_lt 0) (length-map (row_at rows d) cell))) is)
    (found (sym (length-map rows (map cell)) ∙ long))

-- the result is the set of the documents whose rows have a value, where there are so many rows
abbrev pub HoldsValues : Content → ℕ → Result DocSet AllocError → Type 0
HoldsValues c m r = length c.rows ≡ m → IfOk r (IsSetOf m (λ d. nat_lt 0 (length (row_of c d))))
