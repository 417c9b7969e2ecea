-- Values in the rows of documents, by their positions.
use Rattle.std.proofs.Common.{◌≡◌, ℕ, zero, suc, ◌+◌, ◌-◌, ◌<◌, ◌≤◌, max, nat_lt, true, sum, List, [], ◌∷◌, ◌++◌, map, take, drop, length, get_or, slice_get, unwrap_or, Some, refl, sym, ◌∙◌, ap, ap₂, subst, arith}
use Rattle.std.specs.Prelude.{flat_map, Result, Ok, Err, OnOk}
use Rattle.std.specs.declared.alloc.AllocError.{AllocError}
use Rattle.std.specs.List.{range_with_len, filter_map}
use Rattle.std.proofs.lemmas.List.{get_or_default, map-append, map-id, length-append, length-drop, length-map, length-replicate, length-take-le, drop-drop}
use Rattle.std.proofs.Math.Seq.{take-nil, take-length}
use Rattle.std.proofs.lemmas.Bool.{and_parts, and_from, ltb-true}
use Rattle.std.proofs.lemmas.List.Concat.{flat_map-append}
use Rattle.col_common.specs.Ascending.{AreBelow, is_rising}
use Rattle.col_model.specs.Dictionary.{cut}
use Rattle.col_model.specs.Index.{Shape, empty_shape, full_shape, optional_shape, multivalued_shape}
use Rattle.col_model.specs.Positions.{count_in, start_in, values_in}
use Rattle.col_model.proofs.ListLaws.{filter_map-some, all-two, all_taken, all_dropped, map-map}
use Rattle.col_index.specs.Offsets.{positions_of_rows, positions_of}
use Rattle.col_column.specs.Columns.{rows_by, row_at, row_count, counts_by, IsCounted, content_seen}
use Rattle.col_column.proofs.RowLemmas.{length-cut, row_at-cut, row-empty, single, one, end-within, start-next, start-monotone, start-within}
use Rattle.col_model.specs.Table.{Cell}
use Rattle.col_model.specs.Lookup.{row_of}
use Rattle.col_facet.specs.Values.{values_in_rows}
use Rattle.col_facet.specs.declared.facet_cell.FacetCell.{FacetCell}

-- a row's values stand one behind another
pub row-taken : {T : Type 0} (s : Shape) (xs : List T) (d : ℕ) → row_at (rows_by s xs) d ≡ take (count_in s d) (drop (start_in s d) xs)
unfolding rows_by
row-taken (empty_shape m) xs d = row-empty m xs d
row-taken full_shape xs d = single xs d ∙ sym (go xs d)
  where
    go : {T : Type 0} (xs : List T) (d : ℕ) → take 1 (drop d xs) ≡ one (slice_get xs d)
    go [] zero = refl
    go (x ∷ xs) zero = refl
    go [] (suc d) = refl
    go (x ∷ xs) (suc d) = go xs d
row-taken (optional_shape cs) xs d = row_at-cut cs xs d
row-taken (multivalued_shape cs) xs d = row_at-cut cs xs d

-- within all values
pub row-within : (s : Shape) (n d : ℕ) → IsCounted s n → d < row_count s n → start_in s d + count_in s d ≤ n
row-within (empty_shape m) n d counted inside = omega arith
row-within full_shape n d counted inside = omega (arith, inside)
row-within (optional_shape cs) n d counted inside = omega (arith, end-within cs d, counted)
row-within (multivalued_shape cs) n d counted inside = omega (arith, end-within cs d, counted)

first-item : {T : Type 0} (xs : List T) (a : ℕ) → a < length xs
    → (x : T) × (slice_get xs a ≡ Some x) × (drop a xs ≡ x ∷ drop (a + 1) xs)
first-item [] a h = absurd (omega (arith, h))
first-item (x ∷ xs) zero h = (x, refl, refl)
first-item (x ∷ xs) (suc a) h =
    let rest = first-item xs a (omega (arith, h)) in
    let far : suc (a + 1) ≡ suc a + 1 = omega arith in
    (rest.0, rest.1, rest.2 ∙ ap (λ n. rest.0 ∷ drop n (x ∷ xs)) far)

-- items by their places, one behind another
pub range-items : {T : Type 0} (xs : List T) (a n : ℕ) → a + n ≤ length xs
    → map (slice_get xs) (range_with_len a n) ≡ map Some (take n (drop a xs))
range-items xs a zero h = refl
range-items {T = T} xs a (suc n) h = go (first-item xs a (omega (arith, h))) (range-items xs (a + 1) n (omega (arith, h)))
  where
    go : (x : T) × (slice_get xs a ≡ Some x) × (drop a xs ≡ x ∷ drop (a + 1) xs)
        → map (slice_get xs) (range_with_len (a + 1) n) ≡ map Some (take n (drop (a + 1) xs))
        → map (slice_get xs) (range_with_len a (suc n)) ≡ map Some (take (suc n) (drop a xs))
    go (x, e, f) more = ap₂ (λ o os. o ∷ os) e more ∙ ap (λ ys. map Some (take (suc n) ys)) (sym f)

positions-row : (d a n : ℕ) → positions_of (map (λ p. (d, p)) (range_with_len a n)) ≡ range_with_len a n
positions-row d a n = map-map (λ (p : ℕ × ℕ). p.1) (λ p. (d, p)) (range_with_len a n) ∙ map-id (range_with_len a n)

positions-cons : (s : Shape) (d : ℕ) (docs : List ℕ)
    → positions_of (positions_of_rows s (d ∷ docs)) ≡ range_with_len (start_in s d) (count_in s d) ++ positions_of
    (positions_of_rows s docs)
unfolding positions_of_rows
positions-cons s d docs =
    map-append (λ (p : ℕ × ℕ). p.1) (values_in s d) (flat_map (values_in s) docs)
    ∙ ap (λ ps. ps ++ positions_of (flat_map (values_in s) docs)) (positions-row d (start_in s d) (count_in s d))

-- the values of documents, by their positions
pub positions-values : {T : Type 0} (s : Shape) (xs : List T) (docs : List ℕ) → IsCounted s (length xs)
    → AreBelow (row_count s (length xs)) docs
    → map (slice_get xs) (positions_of (positions_of_rows s docs)) ≡ map Some (values_in_rows (rows_by s xs) docs)
unfolding positions_of_rows values_in_rows
positions-values s xs [] counted below = refl
positions-values s xs (d ∷ docs) counted below =
    ap (map (slice_get xs)) (positions-cons s d docs)
    ∙ map-append (slice_get xs) (range_with_len (start_in s d) (count_in s d)) (positions_of (positions_of_rows s docs))
    ∙ ap₂ (λ us vs. us ++ vs)
    (range-items xs (start_in s d) (count_in s d) (row-within s (length xs) d counted below.0)
    ∙ ap (map Some) (sym (row-taken s xs d)))
    (positions-values s xs docs counted below.1)
    ∙ sym (map-append Some (row_at (rows_by s xs) d) (flat_map (row_at (rows_by s xs)) docs))

range-below : (a n m : ℕ) → a + n ≤ m → AreBelow m (range_with_len a n)
range-below a zero m h = tt
range-below a (suc n) m h = (omega (arith, h), range-below (a + 1) n m (omega (arith, h)))

-- such positions are below the number of values
pub positions-below : (s : Shape) (n : ℕ) (docs : List ℕ) → IsCounted s n → AreBelow (row_count s n) docs
    → AreBelow n (positions_of (positions_of_rows s docs))
unfolding positions_of_rows
positions-below s n [] counted below = tt
positions-below s n (d ∷ docs) counted below =
    subst (AreBelow n) (sym (positions-cons s d docs))
    (all-two (λ p. p < n) (range_with_len (start_in s d) (count_in s d)) (positions_of (positions_of_rows s docs))
    (range-below (start_in s d) (count_in s d) n (row-within s n d counted below.0))
    (positions-below s n docs counted below.1))

-- lists that are alike, each item found, are alike
pub found-same : {T : Type 0} (xs ys : List T) → map Some xs ≡ map Some ys → xs ≡ ys
found-same xs ys e = sym (filter_map-some xs) ∙ ap (filter_map (λ o. o)) e ∙ filter_map-some ys

-- ---- how many values there are

start-step : (s : Shape) (d : ℕ) → start_in s (d + 1) ≡ start_in s d + count_in s d
start-step (empty_shape m) d = refl
start-step full_shape d = refl
start-step (optional_shape cs) d = start-next cs d
start-step (multivalued_shape cs) d = start-next cs d

start-later : (s : Shape) (a b : ℕ) → a ≤ b → start_in s a ≤ start_in s b
start-later (empty_shape m) a b h = omega arith
start-later full_shape a b h = h
start-later (optional_shape cs) a b h = start-monotone cs a b h
start-later (multivalued_shape cs) a b h = start-monotone cs a b h

start-end : (s : Shape) (n a : ℕ) → IsCounted s n → a ≤ row_count s n → start_in s a ≤ n
start-end (empty_shape m) n a counted h = omega arith
start-end full_shape n a counted h = h
start-end (optional_shape cs) n a counted h = omega (arith, start-within cs a, counted)
start-end (multivalued_shape cs) n a counted h = omega (arith, start-within cs a, counted)

-- the first of numbers is at least this one
abbrev FromOn : ℕ → List ℕ → Type 0
FromOn a [] = Unit {0}
FromOn a (d ∷ ds) = a ≤ d

rising-rest : (d : ℕ) (ds : List ℕ) → is_rising (d ∷ ds) ≡ true → FromOn (d + 1) ds × (is_rising ds ≡ true)
rising-rest d [] e = (tt, refl)
rising-rest d (b ∷ ds) e =
    let parts = and_parts (nat_lt d b) (is_rising (b ∷ ds)) e in
    let less = ltb-true d b parts.0 in
    (omega (arith, less), parts.1)

pub row-length : {T : Type 0} (s : Shape) (xs : List T) (d : ℕ) → IsCounted s (length xs) → d < row_count s (length xs)
    → length (row_at (rows_by s xs) d) ≡ count_in s d
row-length s xs d counted inside =
    let within = row-within s (length xs) d counted inside in
    ap length (row-taken s xs d)
    ∙ length-take-le (count_in s d) (drop (start_in s d) xs) (omega (arith, length-drop (start_in s d) xs, within))

values-from : {T : Type 0} (s : Shape) (xs : List T) (a : ℕ) (docs : List ℕ) → IsCounted s (length xs) → a ≤ row_count s (length xs)
    → FromOn a docs → is_rising docs ≡ true → AreBelow (row_count s (length xs)) docs
    → start_in s a + length (values_in_rows (rows_by s xs) docs) ≤ length xs
unfolding values_in_rows
values-from s xs a [] counted h from up below = let e = start-end s (length xs) a counted h in omega (arith, e)
values-from s xs a (d ∷ docs) counted h from up below =
    let rest = rising-rest d docs up in
    let inside = below.0 in
    let later = values-from s xs (d + 1) docs counted (omega (arith, inside)) rest.0 rest.1 below.1 in
    let here = row-length s xs d counted below.0 in
    let both = length-append (row_at (rows_by s xs) d) (flat_map (row_at (rows_by s xs)) docs) in
    omega (arith, later, here, both, start-step s d, start-later s a d from)

-- documents that ascend have at most all values
pub values-few : {T : Type 0} (s : Shape) (xs : List T) (docs : List ℕ) → IsCounted s (length xs) → is_rising docs ≡ true
    → AreBelow (row_count s (length xs)) docs → length (values_in_rows (rows_by s xs) docs) ≤ length xs
values-few s xs docs counted up below =
    let all = values-from s xs 0 docs counted (omega arith) (from-zero docs) up below in omega (arith, all)
  where
    from-zero : (ds : List ℕ) → FromOn 0 ds
    from-zero [] = tt
    from-zero (d ∷ ds) = omega arith

-- the values of some documents, and those of others behind them
pub values-both : {T : Type 0} (rows : List (List T)) (ds es : List ℕ)
    → values_in_rows rows (ds ++ es) ≡ values_in_rows rows ds ++ values_in_rows rows es
unfolding values_in_rows
values-both rows ds es = flat_map-append (row_at rows) ds es

-- ---- documents one behind another

take-both : {T : Type 0} (c m : ℕ) (xs : List T) → take c xs ++ take m (drop c xs) ≡ take (c + m) xs
take-both zero m xs = let e : m ≡ 0 + m = omega arith in ap (λ k. take k xs) e
take-both (suc c) m [] = take-nil m ∙ sym (take-nil (suc c + m))
take-both (suc c) m (x ∷ xs) =
    let e : suc (c + m) ≡ suc c + m = omega arith in ap (λ r. x ∷ r) (take-both c m xs) ∙ ap (λ k. take k (x ∷ xs)) e

-- the values of documents one behind another stand one behind another
pub values-range : {T : Type 0} (s : Shape) (xs : List T) (d k : ℕ)
    → values_in_rows (rows_by s xs) (range_with_len d k) ≡ take (start_in s (d + k) - start_in s d) (drop (start_in s d) xs)
unfolding values_in_rows
values-range s xs d zero =
    let e : start_in s d - start_in s d ≡ 0 = omega arith in
    let same : d + 0 ≡ d = omega arith in
    ap (λ n. take n (drop (start_in s d) xs)) (sym (ap (λ n. start_in s n - start_in s d) same ∙ e))
values-range s xs d (suc k) =
    let far : d + 1 + k ≡ d + suc k = omega arith in
    let step = start-step s d in
    let later = start-later s (d + 1) (d + suc k) (omega arith) in
    let size : count_in s d + (start_in s (d + suc k) - start_in s (d + 1)) ≡ start_in s (d + suc k) - start_in s d = omega
    (arith, step, later) in
    ap₂ (λ us vs. us ++ vs) (row-taken s xs d)
    (values-range s xs (d + 1) k
    ∙ ap₂ (λ n m. take (start_in s n - m) (drop m xs)) far refl
    ∙ ap (λ ys. take (start_in s (d + suc k) - start_in s (d + 1)) ys)
    (ap (λ n. drop n xs) step ∙ sym (drop-add (start_in s d) (count_in s d) xs)))
    ∙ take-both (count_in s d) (start_in s (d + suc k) - start_in s (d + 1)) (drop (start_in s d) xs)
    ∙ ap (λ n. take n (drop (start_in s d) xs)) size
  where
    drop-add : {T : Type 0} (a c : ℕ) (xs : List T) → drop c (drop a xs) ≡ drop (a + c) xs
    drop-add a c xs = drop-drop c a xs

last-far : (d : ℕ) (ds : List ℕ) → is_rising (d ∷ ds) ≡ true → d + length ds ≤ get_or (d ∷ ds) (length ds) d
last-far d [] e = omega arith
last-far d (b ∷ ds) e =
    let rest = rising-rest d (b ∷ ds) e in
    let later = last-far b ds rest.1 in
    let same = other-default b d (b ∷ ds) (length ds) (omega arith) in
    omega (arith, later, rest.0, same)
  where
    other-default : (x y : ℕ) (xs : List ℕ) (i : ℕ) → i < length xs → get_or xs i x ≡ get_or xs i y
    other-default x y xs i h = get_or_default xs i x y h

-- documents that ascend, of which the last is as far from the first as they are many, stand one
-- behind another
pub docs-range : (d : ℕ) (ds : List ℕ) → is_rising (d ∷ ds) ≡ true → get_or (d ∷ ds) (length ds) d ≡ d + length ds
    → d ∷ ds ≡ range_with_len d (suc (length ds))
docs-range d [] e far = refl
docs-range d (b ∷ ds) e far =
    let rest = rising-rest d (b ∷ ds) e in
    let later = last-far b ds rest.1 in
    let same : get_or (b ∷ ds) (length ds) b ≡ get_or (b ∷ ds) (length ds) d = get_or_default (b ∷ ds) (length ds) b d (omega arith) in
    let next : b ≡ d + 1 = omega (arith, later, rest.0, same, far) in
    ap (λ r. d ∷ r) (docs-range b ds rest.1 (omega (arith, same, far, next)) ∙ ap (λ n. range_with_len n (suc (length ds))) next)

-- ---- cells

row-cells : {T U : Type 0} (f : T → U) (rows : List (List T)) (d : ℕ)
    → unwrap_or (slice_get (map (map f) rows) d) [] ≡ map f (row_at rows d)
row-cells f [] zero = refl
row-cells f [] (suc d) = refl
row-cells f (row ∷ rows) zero = refl
row-cells f (row ∷ rows) (suc d) = row-cells f rows d

-- the cells in the rows of documents are those of the values there
pub seen-cells : {T : Type 0} (terms : List (List ℕ)) (cell : T → Cell) (s : Shape) (xs : List T) (docs : List ℕ)
    (facet : Cell → FacetCell)
    → map facet (flat_map (row_of (content_seen terms cell s xs)) docs)
    ≡ map (λ x. facet (cell x)) (values_in_rows (rows_by s xs) docs)
unfolding values_in_rows
seen-cells terms cell s xs [] facet = refl
seen-cells terms cell s xs (d ∷ docs) facet =
    let rows = rows_by s xs in
    map-append facet (row_of (content_seen terms cell s xs) d) (flat_map (row_of (content_seen terms cell s xs)) docs)
    ∙ ap₂ (λ us vs. us ++ vs)
    (ap (map facet) (row-cells cell rows d) ∙ map-map facet cell (row_at rows d))
    (seen-cells terms cell s xs docs facet)
    ∙ sym (map-append (λ x. facet (cell x)) (row_at rows d) (flat_map (row_at rows) docs))

-- ---- all rows

-- where the values of all rows start, and where they end
whole-ends : (s : Shape) (n : ℕ) → IsCounted s n → (start_in s 0 ≡ 0) × (start_in s (row_count s n) ≡ n)
whole-ends (empty_shape m) n counted = (refl, sym counted)
whole-ends full_shape n counted = (refl, refl)
whole-ends (optional_shape cs) n counted = (refl, ap sum (take-length cs) ∙ counted)
whole-ends (multivalued_shape cs) n counted = (refl, ap sum (take-length cs) ∙ counted)

-- the values in all rows are all values
pub values-whole : {T : Type 0} (s : Shape) (xs : List T) → IsCounted s (length xs)
    → values_in_rows (rows_by s xs) (range_with_len 0 (row_count s (length xs))) ≡ xs
values-whole s xs counted =
    let ends = whole-ends s (length xs) counted in
    let n = row_count s (length xs) in
    let from_zero : 0 + n ≡ n = omega arith in
    let all : length xs - 0 ≡ length xs = omega arith in
    values-range s xs 0 n
    ∙ ap₂ (λ a b. take (a - b) (drop b xs)) (ap (start_in s) from_zero ∙ ends.1) ends.0
    ∙ ap (λ k. take k xs) all ∙ take-length xs

-- ---- parts of documents, and rows

-- documents from a place on ascend
pub rising-drop : (n : ℕ) (ds : List ℕ) → is_rising ds ≡ true → is_rising (drop n ds) ≡ true
rising-drop zero ds e = e
rising-drop (suc n) [] e = refl
rising-drop (suc n) (d ∷ ds) e = rising-drop n ds ((rising-rest d ds e).1)

-- documents up to a place ascend
pub rising-take : (m : ℕ) (ds : List ℕ) → is_rising ds ≡ true → is_rising (take m ds) ≡ true
rising-take zero ds e = refl
rising-take (suc m) [] e = refl
rising-take (suc m) (d ∷ []) e = ap is_rising (ap (λ r. d ∷ r) (take-nil m))
rising-take (suc zero) (d ∷ b ∷ ds) e = refl
rising-take (suc (suc m)) (d ∷ b ∷ ds) e =
    let parts = and_parts (nat_lt d b) (is_rising (b ∷ ds)) e in
    and_from (nat_lt d b) (is_rising (take (suc m) (b ∷ ds))) parts.0 (rising-take (suc m) (b ∷ ds) parts.1)

-- documents from a place up to another ascend
pub rising-part : (m n : ℕ) (ds : List ℕ) → is_rising ds ≡ true → is_rising (take m (drop n ds)) ≡ true
rising-part m n ds e = rising-take m (drop n ds) (rising-drop n ds e)

-- and are below what all are below
pub below-part : (bound m n : ℕ) (ds : List ℕ) → AreBelow bound ds → AreBelow bound (take m (drop n ds))
below-part bound m n ds all = all_taken (λ d. d < bound) m (drop n ds) (all_dropped (λ d. d < bound) n ds all)

-- a list up to a place, and from there up to another
pub take-next : {A : Type 0} (xs : List A) (at next : ℕ) → at ≤ next → take at xs ++ take (next - at) (drop at xs) ≡ take next xs
take-next xs at next h =
    let e : at + (next - at) ≡ next = omega arith in
    take-both at (next - at) xs ∙ ap (λ n. take n xs) e

-- the values of documents up to a place, and of those from there up to another
pub values-next : {T : Type 0} (rows : List (List T)) (docs : List ℕ) (at next : ℕ) (old new : List T) → at ≤ next
    → old ≡ values_in_rows rows (take at docs) → new ≡ old ++ values_in_rows rows (take (next - at) (drop at docs))
    → new ≡ values_in_rows rows (take next docs)
values-next rows docs at next old new h e f =
    f ∙ ap (λ xs. xs ++ values_in_rows rows (take (next - at) (drop at docs))) e
    ∙ sym (values-both rows (take at docs) (take (next - at) (drop at docs)))
    ∙ ap (values_in_rows rows) (take-next docs at next h)

-- the values of no documents
pub values-none : {T : Type 0} (rows : List (List T)) → values_in_rows rows [] ≡ []
unfolding values_in_rows
values-none rows = refl

counts-length : (s : Shape) (n : ℕ) → length (counts_by s n) ≡ row_count s n
counts-length (empty_shape m) n = length-replicate m 0
counts-length full_shape n = length-replicate n 1
counts-length (optional_shape cs) n = refl
counts-length (multivalued_shape cs) n = refl

-- how many rows a column has
pub rows-length : {T U : Type 0} (f : List T → U) (s : Shape) (xs : List T) → length (map f (rows_by s xs)) ≡ row_count s (length xs)
unfolding rows_by
rows-length f s xs =
    length-map (cut (counts_by s (length xs)) xs) f ∙ length-cut (counts_by s (length xs)) xs ∙ counts-length s (length xs)

-- the positions of neighbouring documents are within the values
pub range-within : {T : Type 0} (s t : Shape) (xs ys : List T) (start end to : ℕ) → ys ≡ xs → t ≡ s → IsCounted s (length xs)
    → start ≤ end → end ≤ row_count s (length xs) → to ≡ start_in t (max start end) → to ≤ length ys
range-within s t xs ys start end to e f counted order inside is =
    let same : max start end ≡ end = omega arith in
    let last = start-end s (length xs) end counted inside in
    omega (arith, is, ap (λ u. start_in u (max start end)) f, ap (start_in s) same, last, ap length e)

-- values that were added, by the positions where those of neighbouring documents start and end
pub range-added : {T : Type 0} (r : Result (Unit {0}) AllocError) (s t : Shape) (xs ys old new : List T) (start end from to : ℕ)
    → ys ≡ xs → t ≡ s → start ≤ end → from ≡ start_in t start → to ≡ start_in t (max start end)
    → OnOk r (new ≡ old ++ take (to - from) (drop from ys))
    → OnOk r (new ≡ old ++ values_in_rows (rows_by s xs) (range_with_len start (end - start)))
range-added r s t xs ys old new start end from to e f order first last =
    let far : start + (end - start) ≡ max start end = omega arith in
    let begins : from ≡ start_in s start = first ∙ ap (λ u. start_in u start) f in
    let ends : to ≡ start_in s (start + (end - start)) = last ∙ ap (λ u. start_in u (max start end)) f ∙ ap (start_in s) (sym far) in
    let found : take (to - from) (drop from ys) ≡ values_in_rows (rows_by s xs) (range_with_len start (end - start)) =
    ap (λ zs. take (to - from) (drop from zs)) e ∙ ap₂ (λ a b. take (a - b) (drop b xs)) ends begins
    ∙ sym (values-range s xs start (end - start)) in
    subst (λ zs. OnOk r (new ≡ old ++ zs)) found

-- a number below a bound, of those that all are
pub below-at : (bound : ℕ) (ds : List ℕ) (i d : ℕ) → AreBelow bound ds → i < length ds → get_or ds i d < bound
below-at bound [] i d all h = absurd (omega (arith, h))
below-at bound (b ∷ ds) zero d all h = all.0
below-at bound (b ∷ ds) (suc i) d all h = below-at bound ds i d all.1 (omega (arith, h))

-- documents that ascend are neighbours where the last is as far as they are many
pub neighbours-are : (ds : List ℕ) (start end : ℕ) → is_rising ds ≡ true → 0 < length ds → start ≡ get_or ds 0 0
    → end ≡ get_or ds (length ds - 1) 0 + 1 → end ≡ start + length ds → ds ≡ range_with_len start (end - start)
neighbours-are [] start end up some e f g = absurd (omega (arith, some))
neighbours-are (d ∷ ds) start end up some e f g =
    let count : suc (length ds) - 1 ≡ length ds = omega arith in
    let last : get_or (d ∷ ds) (length ds) 0 ≡ get_or (d ∷ ds) (length ds) d = get_or_default (d ∷ ds) (length ds) 0 d (omega arith) in
    let far : get_or (d ∷ ds) (length ds) d ≡ d + length ds = omega (arith, e, f, g, last, ap (λ n. get_or (d ∷ ds) n 0) count) in
    let size : suc (length ds) ≡ end - start = omega (arith, e, g) in
    docs-range d ds up far ∙ ap₂ range_with_len (sym e) size

-- positions of documents are those of values
pub positions-fit : {T : Type 0} (s : Shape) (xs ys : List T) (docs rows : List ℕ) → ys ≡ xs → IsCounted s (length xs)
    → AreBelow (row_count s (length xs)) docs → rows ≡ positions_of (positions_of_rows s docs) → AreBelow (length ys) rows
positions-fit s xs ys docs rows e counted below is =
    subst (λ n. AreBelow n rows) (sym (ap length e))
    (subst (AreBelow (length xs)) (sym is) (positions-below s (length xs) docs counted below))

-- values that were added, by what each position has
pub positions-added : {T : Type 0} (r : Result (Unit {0}) AllocError) (s : Shape) (xs ys old new : List T) (docs rows : List ℕ)
    → ys ≡ xs → IsCounted s (length xs) → AreBelow (row_count s (length xs)) docs → rows ≡ positions_of (positions_of_rows s docs)
    → OnOk r (map Some new ≡ map Some old ++ map (slice_get ys) rows) → OnOk r (new ≡ old ++ values_in_rows (rows_by s xs) docs)
positions-added {T = T} (Ok done) s xs ys old new docs rows e counted below is h =
    let found = ap (λ zs. map (slice_get zs) rows) e ∙ ap (map (slice_get xs)) is ∙ positions-values s xs docs counted below in
    found-same new (old ++ values_in_rows (rows_by s xs) docs)
    (h ∙ ap (λ os. map Some old ++ os) found ∙ sym (map-append (λ (x : T). Some x) old (values_in_rows (rows_by s xs) docs)))
positions-added (Err x) s xs ys old new docs rows e counted below is h = h
