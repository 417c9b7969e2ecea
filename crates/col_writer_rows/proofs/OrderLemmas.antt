-- Permutations of documents, by the document of each row.
use Rattle.std.proofs.Common.{◌≡◌, ◌<◌, ◌≤◌, ℕ, zero, suc, ◌+◌, ◌-◌, ◌^◌, List, [], ◌∷◌, ◌++◌, length, map, take, get_or, set, replicate, Bool, true, false, cond, not, Some, None, unwrap_or, refl, sym, ap, ◌∙◌, subst, arith, lt-ltb, eq-eqb, get_or-set_same, get_or-set_other, length-set, length-take}
use Rattle.std.specs.Prelude.{nat_lt, ◌&&◌, ◌||◌, ◌==◌, count_by}
use Rattle.std.specs.List.{list_all, list_any, range_with_len, position_from}
use Rattle.std.proofs.lemmas.Bool.{and_parts, and_from}
use Rattle.std.proofs.lemmas.Iterator.Adapters.{position_from-zero}
use Rattle.std.proofs.lemmas.List.{take_more, map-id}
use Rattle.std.proofs.lemmas.List.FromFn.{length-map-range_with_len, get_or-map-range_with_len, length-range_with_len}
use Rattle.std.proofs.lemmas.List.Sums.{sum_by-cons}
use Rattle.std.proofs.lemmas.Grind.{same_number_lists}
use Rattle.col_common.specs.Ascending.{are_below}
use Rattle.col_model.specs.Written.{doc_at, is_permutation}
use Rattle.col_writer_rows.specs.RowOrders.{docs_placed, AreRowDocs, first_doc, first_docs, noted}
use Rattle.col_writer_rows.specs.declared.row_order.TheConstants.{NO_DOC}

-- ---- the first place that passes

-- one item more, where it doesn't pass
place-other : (t : ℕ → Bool) (a : ℕ) (xs : List ℕ) (x : ℕ) → t x ≡ false → position_from t a (xs ++ x ∷ []) ≡ position_from t a xs
place-other t a [] x e = ap (λ b. cond b (Some a) None) e
place-other t a (y ∷ ys) x e = ap (λ o. cond (t y) (Some a) o) (place-other t (a + 1) ys x e)

-- where one passes already
place-kept : (t : ℕ → Bool) (a : ℕ) (xs : List ℕ) (x : ℕ) → list_any t xs ≡ true → position_from t a (xs ++ x ∷ []) ≡ position_from t a xs
place-kept t a [] x e = absurd (cc)
place-kept t a (y ∷ ys) x e = by (t y) e (λ h. place-kept t (a + 1) ys x h)
  where
    by : (b : Bool) → (b || list_any t ys) ≡ true
        → (list_any t ys ≡ true → position_from t (a + 1) (ys ++ x ∷ []) ≡ position_from t (a + 1) ys)
        → cond b (Some a) (position_from t (a + 1) (ys ++ x ∷ [])) ≡ cond b (Some a) (position_from t (a + 1) ys)
    by true f rest = refl
    by false f rest = rest f

-- where it is the first that passes
place-new : (t : ℕ → Bool) (a : ℕ) (xs : List ℕ) (x : ℕ) → list_any t xs ≡ false → t x ≡ true
    → position_from t a (xs ++ x ∷ []) ≡ Some (a + length xs)
place-new t a [] x e h = let z : a ≡ a + 0 = omega arith in ap (λ b. cond b (Some a) None) h ∙ ap Some z
place-new t a (y ∷ ys) x e h = by (t y) e (λ f. place-new t (a + 1) ys x f h)
  where
    by : (b : Bool) → (b || list_any t ys) ≡ false
        → (list_any t ys ≡ false → position_from t (a + 1) (ys ++ x ∷ []) ≡ Some ((a + 1) + length ys))
        → cond b (Some a) (position_from t (a + 1) (ys ++ x ∷ [])) ≡ Some (a + length (y ∷ ys))
    by true f rest = absurd (cc)
    by false f rest = let place : (a + 1) + length ys ≡ a + length (y ∷ ys) = omega arith in rest f ∙ ap Some place

-- a place within the list, whose item passes
record IsPlace (t : ℕ → Bool) (a : ℕ) (xs : List ℕ) (k : ℕ) : Type 0 where
  from : a ≤ k
  within : k < a + length xs
  passes : t (get_or xs (k - a) 0) ≡ true

place-found : (t : ℕ → Bool) (a : ℕ) (xs : List ℕ) → list_any t xs ≡ true → (k : ℕ) × (position_from t a xs ≡ Some k) × IsPlace t a xs k
place-found t a [] e = absurd (cc)
place-found t a (y ∷ ys) e = by (t y) refl e (λ h. place-found t (a + 1) ys h)
  where
    by : (b : Bool) → t y ≡ b → (b || list_any t ys) ≡ true
        → (list_any t ys ≡ true → (k : ℕ) × (position_from t (a + 1) ys ≡ Some k) × IsPlace t (a + 1) ys k)
        → (k : ℕ) × (cond b (Some a) (position_from t (a + 1) ys) ≡ Some k) × IsPlace t a (y ∷ ys) k
    by true g f rest =
        let zero_more : a - a ≡ 0 = omega arith in
        (a, refl, record { from = omega arith; within = omega arith; passes = ap (λ i. t (get_or (y ∷ ys) i 0)) zero_more ∙ g })
    by false g f rest =
        let later = rest f in
        let next : later.0 - a ≡ suc (later.0 - (a + 1)) = omega (arith, later.2.from) in (
          later.0,
          later.1,
          record {
            from = omega (arith, later.2.from);
            within = omega (arith, later.2.within);
            passes = ap (λ i. t (get_or (y ∷ ys) i 0)) next ∙ later.2.passes;
          },
        )

place-none : (t : ℕ → Bool) (a : ℕ) (xs : List ℕ) → list_any t xs ≡ false → position_from t a xs ≡ None
place-none t a [] e = refl
place-none t a (y ∷ ys) e = by (t y) e (λ h. place-none t (a + 1) ys h)
  where
    by : (b : Bool) → (b || list_any t ys) ≡ false → (list_any t ys ≡ false → position_from t (a + 1) ys ≡ None)
        → cond b (Some a) (position_from t (a + 1) ys) ≡ None
    by true f rest = absurd (cc)
    by false f rest = rest f

same-number : (x y : ℕ) → (x == y) ≡ true → x ≡ y
same-number x y h = grind arith

next-number : (x y : ℕ) → (x == y) ≡ false → x ≤ y → x + 1 ≤ y
next-number x y h l = grind arith

-- ---- the first document of a row

abbrev is_row : ℕ → ℕ → Bool
is_row row x = x == row

doc-from : (rows : List ℕ) (row : ℕ) → first_doc rows row ≡ unwrap_or (position_from (is_row row) 0 rows) NO_DOC
doc-from rows row = ap (λ o. unwrap_or o NO_DOC) (position_from-zero (is_row row) rows)

doc-none : (rows : List ℕ) (row : ℕ) → list_any (is_row row) rows ≡ false → first_doc rows row ≡ NO_DOC
doc-none rows row e = doc-from rows row ∙ ap (λ o. unwrap_or o NO_DOC) (place-none (is_row row) 0 rows e)

-- a document that has the row
record HasRow (rows : List ℕ) (row d : ℕ) : Type 0 where
  within : d < length rows
  has : get_or rows d 0 ≡ row

doc-found : (rows : List ℕ) (row : ℕ) → list_any (is_row row) rows ≡ true
    → (first_doc rows row ≡ doc_at (Some rows) row) × HasRow rows row (first_doc rows row)
doc-found rows row e =
    let p = place-found (is_row row) 0 rows e in
    let here : first_doc rows row ≡ p.0 = doc-from rows row ∙ ap (λ o. unwrap_or o NO_DOC) p.1 in
    let there : doc_at (Some rows) row ≡ p.0 = ap (λ o. unwrap_or o 0) (position_from-zero (is_row row) rows)
    ∙ ap (λ o. unwrap_or o 0) p.1 in
    let start : p.0 - 0 ≡ p.0 = omega arith in
    let same : get_or rows p.0 0 ≡ row = passed (get_or rows p.0 0) row (sym (ap (λ i. is_row row (get_or rows i 0)) start) ∙ p.2.passes) in
    (here ∙ sym there, subst (HasRow rows row) (sym here) (record { within = omega (arith, p.2.within); has = same }))
  where
    passed : (x y : ℕ) → (x == y) ≡ true → x ≡ y
    passed x y h = grind arith

-- ---- one document more

first-from : (xs ys : List ℕ) (row : ℕ) → position_from (is_row row) 0 xs ≡ position_from (is_row row) 0 ys
    → first_doc xs row ≡ first_doc ys row
first-from xs ys row e = doc-from xs row ∙ ap (λ o. unwrap_or o NO_DOC) e ∙ sym (doc-from ys row)

-- documents by row, as far as they came
record AreFirst (n : ℕ) (docs xs : List ℕ) : Type 0 where
  count : length docs ≡ n
  items : (i : ℕ) → i < n → get_or docs i 0 ≡ first_doc xs i
  few : n < 2 ^ 32
  more : length xs < n

none_marked : (n : ℕ) (docs xs : List ℕ) (v : ℕ) → AreFirst n docs xs → v < n → get_or docs v 0 ≡ NO_DOC → list_any (is_row v) xs ≡ false
none_marked n docs xs v h low e = by (list_any (is_row v) xs) refl
  where
    by : (b : Bool) → list_any (is_row v) xs ≡ b → b ≡ false
    by false f = refl
    by true f =
        let p = doc-found xs v f in
        absurd (omega (arith, p.1.within, h.more, h.few, h.items v low, e))

some_unmarked : (n : ℕ) (docs xs : List ℕ) (v : ℕ) → AreFirst n docs xs → v < n
    → (get_or docs v 0 == NO_DOC) ≡ false → list_any (is_row v) xs ≡ true
some_unmarked n docs xs v h low e = by (list_any (is_row v) xs) refl
  where
    by : (b : Bool) → list_any (is_row v) xs ≡ b → b ≡ true
    by true f = refl
    by false f =
        let mark : get_or docs v 0 ≡ NO_DOC = h.items v low ∙ doc-none xs v f in
        let no : true ≡ false = sym (eq-eqb (get_or docs v 0) NO_DOC mark) ∙ e in absurd (cc)

noted-by : (n : ℕ) (docs xs : List ℕ) (v k : ℕ) → AreFirst n docs xs → k < n → (a b c : Bool)
    → nat_lt v (length docs) ≡ a → (get_or docs v 0 == NO_DOC) ≡ b → (v == k) ≡ c
    → get_or (cond (a && b) (set docs v (length xs)) docs) k 0 ≡ first_doc (xs ++ v ∷ []) k
noted-by n docs xs v k h low true true true e f g =
    let same : v ≡ k = grind arith in
    let mark : get_or docs v 0 ≡ NO_DOC = grind arith in
    let inside : v < n = omega arith in
    let within : v < length docs = omega (arith, h.count) in
    let none = none_marked n docs xs v h inside mark in
    let passes : is_row v v ≡ true = eq-eqb v v refl in
    let zero_more : 0 + length xs ≡ length xs = omega arith in
    ap (λ i. get_or (set docs v (length xs)) i 0) (sym same) ∙ get_or-set_same docs v (length xs) 0 within
    ∙ sym (doc-from (xs ++ v ∷ []) v ∙ ap (λ o. unwrap_or o NO_DOC) (place-new (is_row v) 0 xs v none passes) ∙ zero_more)
    ∙ ap (first_doc (xs ++ v ∷ [])) same
noted-by n docs xs v k h low true false true e f g =
    let same : v ≡ k = grind arith in
    let inside : v < n = omega arith in
    let some = some_unmarked n docs xs v h inside f in
    h.items k low ∙ sym (first-from (xs ++ v ∷ []) xs k (place-kept (is_row k) 0 xs v (ap (λ r. list_any (is_row r) xs) (sym same) ∙ some)))
noted-by n docs xs v k h low false b true e f g =
    absurd (outside v k (length docs) (ap (nat_lt v) refl ∙ e) g (omega (arith, h.count, low)))
  where
    outside : (v k m : ℕ) → nat_lt v m ≡ false → (v == k) ≡ true → k < m → ⊥
    outside v k m a b c = grind arith
noted-by n docs xs v k h low true true false e f g =
    let apart : k ≡ v → ⊥ = grind arith in
    get_or-set_other docs v k (length xs) 0 apart ∙ h.items k low ∙ sym (first-from (xs ++ v ∷ []) xs k (place-other (is_row k) 0 xs v g))
noted-by n docs xs v k h low true false false e f g = h.items k low ∙ sym (first-from (xs ++ v ∷ []) xs k (place-other (is_row k) 0 xs v g))
noted-by n docs xs v k h low false b false e f g = h.items k low ∙ sym (first-from (xs ++ v ∷ []) xs k (place-other (is_row k) 0 xs v g))

length-first : (n : ℕ) (rows : List ℕ) → length (first_docs n rows) ≡ n
unfolding first_docs
length-first n rows = length-map-range_with_len (first_doc rows) 0 n

first-item : (n : ℕ) (rows : List ℕ) (i : ℕ) → i < n → get_or (first_docs n rows) i 0 ≡ first_doc rows i
unfolding first_docs
first-item n rows i h = get_or-map-range_with_len (first_doc rows) 0 n i i 0 h (omega arith)

length-noted : (docs : List ℕ) (v d : ℕ) (a b : Bool) → length (cond (a && b) (set docs v d) docs) ≡ length docs
length-noted docs v d true true = length-set docs v d
length-noted docs v d true false = refl
length-noted docs v d false b = refl

-- the document that comes is noted
pub noted-next : (n : ℕ) (docs rows : List ℕ) (i v : ℕ) → n < 2 ^ 32 → length rows ≡ n
    → docs ≡ first_docs n (take i rows) → i < n → v ≡ get_or rows i 0
    → noted docs i v ≡ first_docs n (take (i + 1) rows)
noted-next n docs rows i v fits count e low is =
    let xs = take i rows in
    let long : length xs ≡ i = omega (arith, length-take i rows, count) in
    let many : length docs ≡ n = ap length e ∙ length-first n xs in
    let h : AreFirst n docs xs = record {
      count = many;
      items = λ j l. ap (λ r. get_or r j 0) e ∙ first-item n xs j l;
      few = fits;
      more = omega (arith, long, low);
    } in
    let inside : i < length rows = omega (arith, count, low) in
    let next : xs ++ v ∷ [] ≡ take (i + 1) rows = ap (λ x. xs ++ x ∷ []) is ∙ sym (take_more rows i 0 inside) in
    same_number_lists (noted docs i v) (first_docs n (take (i + 1) rows))
    (length-noted docs v i (nat_lt v (length docs)) (get_or docs v 0 == NO_DOC) ∙ many ∙ sym (length-first n (take (i + 1) rows)))
    (λ k l.
    let below : k < n = omega (arith, l, length-noted docs v i (nat_lt v (length docs)) (get_or docs v 0 == NO_DOC), many) in
    ap (λ m. get_or (cond (nat_lt v (length docs) && (get_or docs v 0 == NO_DOC)) (set docs v m) docs) k 0) (sym long)
    ∙ noted-by n docs xs v k h below (nat_lt v (length docs)) (get_or docs v 0 == NO_DOC) (v == k) refl refl refl
    ∙ ap (λ r. first_doc r k) next ∙ sym (first-item n (take (i + 1) rows) k below))

-- none came yet
pub noted-none : (n : ℕ) → replicate n NO_DOC ≡ first_docs n []
unfolding first_docs
noted-none n = go 0 n
  where
    go : (a m : ℕ) → replicate m NO_DOC ≡ map (first_doc []) (range_with_len a m)
    go a zero = refl
    go a (suc m) = ap (λ r. NO_DOC ∷ r) (go (a + 1) m)

-- ---- whether all rows have a document

marked : (n : ℕ) (rows : List ℕ) (row : ℕ) → n < 2 ^ 32 → length rows ≡ n → not (first_doc rows row == NO_DOC) ≡ list_any (is_row row) rows
marked n rows row fits count = by (list_any (is_row row) rows) refl
  where
    by : (b : Bool) → list_any (is_row row) rows ≡ b → not (first_doc rows row == NO_DOC) ≡ b
    by true e =
        let p = doc-found rows row e in
        apart (first_doc rows row) (omega (arith, p.1.within, count, fits))
      where
        apart : (d : ℕ) → d < 2 ^ 32 - 1 → not (d == NO_DOC) ≡ true
        apart d h = grind arith
    by false e = ap not (eq-eqb (first_doc rows row) NO_DOC (doc-none rows row e))

all-marked : (n : ℕ) (rows : List ℕ) (a m : ℕ) → n < 2 ^ 32 → length rows ≡ n
    → list_all (λ d. not (d == NO_DOC)) (map (first_doc rows) (range_with_len a m))
    ≡ list_all (λ r. list_any (is_row r) rows) (range_with_len a m)
all-marked n rows a zero fits count = refl
all-marked n rows a (suc m) fits count = λ i. marked n rows a fits count i && all-marked n rows (a + 1) m fits count i

-- each of the first documents is there where the rows are a permutation, and there alone
pub has_all-permutation : (n : ℕ) (rows docs : List ℕ) → n < 2 ^ 32 → length rows ≡ n → docs ≡ first_docs n rows
    → list_all (λ d. not (d == NO_DOC)) docs ≡ is_permutation n (Some rows)
unfolding first_docs
has_all-permutation n rows docs fits count e =
    ap (list_all (λ d. not (d == NO_DOC))) e ∙ all-marked n rows 0 n fits count
    ∙ sym (ap (λ b. b && list_all (λ r. list_any (is_row r) rows) (range_with_len 0 n)) (eq-eqb (length rows) n count))

permutation-rows : (n : ℕ) (rows : List ℕ) → is_permutation n (Some rows) ≡ true
    → list_all (λ r. list_any (is_row r) rows) (range_with_len 0 n) ≡ true
permutation-rows n rows e = (and_parts (length rows == n) (list_all (λ r. list_any (is_row r) rows) (range_with_len 0 n)) e).1

-- ---- the documents of the rows

placed-from : (rows : List ℕ) (a m : ℕ) → list_all (λ r. list_any (is_row r) rows) (range_with_len a m) ≡ true
    → map (first_doc rows) (range_with_len a m) ≡ map (doc_at (Some rows)) (range_with_len a m)
placed-from rows a zero e = refl
placed-from rows a (suc m) e =
    let parts = and_parts (list_any (is_row a) rows) (list_all (λ r. list_any (is_row r) rows) (range_with_len (a + 1) m)) e in
    λ i. (doc-found rows a parts.0).0 i ∷ placed-from rows (a + 1) m parts.1 i

-- under a permutation the first documents of the rows are those placed by it
pub placed-first : (n : ℕ) (rows docs : List ℕ) → docs ≡ first_docs n rows → is_permutation n (Some rows) ≡ true
    → docs ≡ docs_placed n (Some rows)
unfolding first_docs
placed-first n rows docs e h = e ∙ placed-from rows 0 n (permutation-rows n rows h)

below-from : (n : ℕ) (rows : List ℕ) (a m : ℕ) → length rows ≡ n
    → list_all (λ r. list_any (is_row r) rows) (range_with_len a m) ≡ true
    → are_below n (map (first_doc rows) (range_with_len a m)) ≡ true
below-from n rows a zero count e = refl
below-from n rows a (suc m) count e =
    let parts = and_parts (list_any (is_row a) rows) (list_all (λ r. list_any (is_row r) rows) (range_with_len (a + 1) m)) e in
    let p = (doc-found rows a parts.0).1 in
    let low : first_doc rows a < n = omega (arith, p.within, count) in
    and_from (nat_lt (first_doc rows a) n) (are_below n (map (first_doc rows) (range_with_len (a + 1) m)))
    (lt-ltb (first_doc rows a) n low) (below-from n rows (a + 1) m count parts.1)

-- a list whose items lead back to their places has each item once
record LeadsBack (f g : ℕ → ℕ) (a m : ℕ) : Type 0 where
  back : (r : ℕ) → a ≤ r → r < a + m → g (f r) ≡ r

back-next : (f g : ℕ → ℕ) (a m : ℕ) → LeadsBack f g a (suc m) → LeadsBack f g (a + 1) m
back-next f g a m h = record { back = λ r low high. h.back r (omega arith) (omega arith) }

none-before : (f g : ℕ → ℕ) (a m d : ℕ) → LeadsBack f g a m → g d < a → count_by (λ x. x == d) (map f (range_with_len a m)) ≡ 0
none-before f g a zero d h low = refl
none-before f g a (suc m) d h low = by (f a == d) refl (none-before f g (a + 1) m d (back-next f g a m h) (omega arith))
  where
    by : (b : Bool) → (f a == d) ≡ b → count_by (λ x. x == d) (map f (range_with_len (a + 1) m)) ≡ 0
        → count_by (λ x. x == d) (f a ∷ map f (range_with_len (a + 1) m)) ≡ 0
    by true e rest =
        let same : f a ≡ d = same-number (f a) d e in
        absurd (omega (arith, h.back a (omega arith) (omega arith), ap g same, low))
    by false e rest =
        let first : ◌≡◌ {A = ℕ} (cond (f a == d) 1 0) 0 = ap {B = ℕ} (λ c. cond c 1 0) e in
        omega (arith, sum_by-cons (λ x. cond (x == d) 1 0) (f a) (map f (range_with_len (a + 1) m)), first, rest)

once-from : (f g : ℕ → ℕ) (a m d : ℕ) → LeadsBack f g a m → count_by (λ x. x == d) (map f (range_with_len a m)) ≤ 1
once-from f g a zero d h = omega arith
once-from f g a (suc m) d h = by (f a == d) refl (once-from f g (a + 1) m d (back-next f g a m h))
  where
    by : (b : Bool) → (f a == d) ≡ b → count_by (λ x. x == d) (map f (range_with_len (a + 1) m)) ≤ 1
        → count_by (λ x. x == d) (f a ∷ map f (range_with_len (a + 1) m)) ≤ 1
    by true e rest =
        let same : f a ≡ d = same-number (f a) d e in
        let here : g d ≡ a = ap g (sym same) ∙ h.back a (omega arith) (omega arith) in
        let none = none-before f g (a + 1) m d (back-next f g a m h) (omega (arith, here)) in
        let first : ◌≡◌ {A = ℕ} (cond (f a == d) 1 0) 1 = ap {B = ℕ} (λ c. cond c 1 0) e in
        omega (arith, sum_by-cons (λ x. cond (x == d) 1 0) (f a) (map f (range_with_len (a + 1) m)), first, none)
    by false e rest =
        let first : ◌≡◌ {A = ℕ} (cond (f a == d) 1 0) 0 = ap {B = ℕ} (λ c. cond c 1 0) e in
        omega (arith, sum_by-cons (λ x. cond (x == d) 1 0) (f a) (map f (range_with_len (a + 1) m)), first, rest)

has-back : (rows : List ℕ) (a m : ℕ) → list_all (λ r. list_any (is_row r) rows) (range_with_len a m) ≡ true
    → (r : ℕ) → a ≤ r → r < a + m → get_or rows (first_doc rows r) 0 ≡ r
has-back rows a zero e r low high = absurd (omega arith)
has-back rows a (suc m) e r low high =
    let parts = and_parts (list_any (is_row a) rows) (list_all (λ r. list_any (is_row r) rows) (range_with_len (a + 1) m)) e in
    by (a == r) refl parts.0 (λ l. has-back rows (a + 1) m parts.1 r l (omega (arith, high)))
  where
    by : (b : Bool) → (a == r) ≡ b → list_any (is_row a) rows ≡ true
        → (a + 1 ≤ r → get_or rows (first_doc rows r) 0 ≡ r) → get_or rows (first_doc rows r) 0 ≡ r
    by true f some rest = subst (λ k. get_or rows (first_doc rows k) 0 ≡ k) (same-number a r f) ((doc-found rows a some).1.has)
    by false f some rest = rest (next-number a r f low)

-- the first documents of the rows of a permutation are n that differ and are below n
pub placed-docs : (n : ℕ) (rows docs : List ℕ) → length rows ≡ n → docs ≡ first_docs n rows
    → is_permutation n (Some rows) ≡ true → AreRowDocs n docs
unfolding first_docs
placed-docs n rows docs count e h =
    let each = permutation-rows n rows h in
    subst (AreRowDocs n) (sym e) (record {
      count = length-map-range_with_len (first_doc rows) 0 n;
      below = below-from n rows 0 n count each;
      once = λ d. once-from (first_doc rows) (λ x. get_or rows x 0) 0 n d (record { back = has-back rows 0 n each });
    })

below-range : (n a m : ℕ) → a + m ≤ n → are_below n (range_with_len a m) ≡ true
below-range n a zero h = refl
below-range n a (suc m) h =
    let low : a < n = omega arith in
    and_from (nat_lt a n) (are_below n (range_with_len (a + 1) m)) (lt-ltb a n low) (below-range n (a + 1) m (omega arith))

-- documents at their own rows
pub own-docs : (n : ℕ) → AreRowDocs n (range_with_len 0 n)
own-docs n = record {
  count = length-range_with_len 0 n;
  below = below-range n 0 n (omega arith);
  once =
      λ d. subst (λ r. count_by (λ x. x == d) r ≤ 1) (map-id (range_with_len 0 n))
      (once-from (λ x. x) (λ x. x) 0 n d (record { back = λ r low high. refl }));
}
