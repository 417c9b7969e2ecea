-- Values beside their documents, and their rows.
use Rattle.std.proofs.Common.{◌≡◌, ◌<◌, ◌≤◌, ℕ, zero, suc, ◌+◌, List, [], ◌∷◌, ◌++◌, length, take, drop, map, filter, sum, Bool, true, false, cond, refl, sym, ◌∙◌, ap, arith, length-append, le-leb}
use Rattle.std.specs.Prelude.{nat_lt, nat_le, ◌==◌, count_by}
use Rattle.std.specs.List.{list_all, range_with_len, zip, sum_by}
use Rattle.std.proofs.lemmas.Bool.{and_parts, and_from}
use Rattle.std.proofs.lemmas.List.Sums.{length-filter, sum_by-cons, sum-map}
use Rattle.std.proofs.lemmas.Slice.Zip.{firsts-zip, seconds-zip}
use Rattle.std.proofs.lemmas.List.{length-map}
use Rattle.col_common.specs.Ascending.{is_never_falling, are_below}
use Rattle.col_model.specs.U64List.{joined_lists}
use Rattle.col_model.specs.Dictionary.{cut}
use Rattle.col_model.proofs.CutLaws.{cut-joined}
use Rattle.std.proofs.Math.Seq.{take-append_seam}
use Rattle.col_writer_rows.specs.Documents.{docs_of}
use Rattle.col_writer_rows.specs.Counted.{counts_of_rows}
use Rattle.col_writer_rows.specs.RowOrders.{AreRowDocs}
use Rattle.col_writer_rows.specs.Rows.{values_at, picked_rows}

-- ---- the first value

none_at : {X : Type 0} (ps : List (ℕ × X)) (m a : ℕ) → a < m → list_all (λ q. nat_le m q.0) ps ≡ true → values_at ps a ≡ []
none_at [] m a h e = refl
none_at (p ∷ ps) m a h e =
    let parts = and_parts (nat_le m p.0) (list_all (λ q. nat_le m q.0) ps) e in
    let apart : (p.0 == a) ≡ false = grind arith in
    ap (λ b. map (λ q. q.1) (cond b (p ∷ filter (λ q. q.0 == a) ps) (filter (λ q. q.0 == a) ps))) apart ∙ none_at ps m a h parts.1

later_same : {X : Type 0} (p : ℕ × X) (ps : List (ℕ × X)) (b n : ℕ) → p.0 < b
    → map (values_at (p ∷ ps)) (range_with_len b n) ≡ map (values_at ps) (range_with_len b n)
later_same p ps b zero h = refl
later_same p ps b (suc n) h =
    let apart : (p.0 == b) ≡ false = grind arith in
    let next : p.0 < b + 1 = omega arith in
    λ i. map (λ q. q.1) (cond (apart i) (p ∷ filter (λ q. q.0 == b) ps) (filter (λ q. q.0 == b) ps)) ∷ later_same p ps (b + 1) n next i

joined-first : {X : Type 0} (p : ℕ × X) (ps : List (ℕ × X)) (a n : ℕ) → list_all (λ q. nat_le p.0 q.0) ps ≡ true
    → a ≤ p.0 → p.0 < a + n
    → joined_lists (map (values_at (p ∷ ps)) (range_with_len a n))
    ≡ p.1 ∷ joined_lists (map (values_at ps) (range_with_len a n))
joined-first p ps a zero all low high = absurd (omega arith)
joined-first {X} p ps a (suc n) all low high = by (p.0 == a) refl (λ h. joined-first p ps (a + 1) n all h (omega arith))
  where
    by : (b : Bool) → (p.0 == a) ≡ b
        → (a + 1 ≤ p.0 → joined_lists (map (values_at (p ∷ ps)) (range_with_len (a + 1) n))
        ≡ p.1 ∷ joined_lists (map (values_at ps) (range_with_len (a + 1) n))) →
        map (λ q. q.1) (cond b (p ∷ filter (λ q. q.0 == a) ps) (filter (λ q. q.0 == a) ps))
        ++ joined_lists (map (values_at (p ∷ ps)) (range_with_len (a + 1) n))
        ≡ p.1 ∷ (values_at ps a ++ joined_lists (map (values_at ps) (range_with_len (a + 1) n)))
    by true e later =
        let here : p.0 < a + 1 = grind arith in ap (λ r. p.1 ∷ (values_at ps a ++ joined_lists r))
        (later_same p ps (a + 1) n here)
    by false e later =
        let above : a + 1 ≤ p.0 = grind arith in
        let none : values_at ps a ≡ [] = none_at ps p.0 a (omega arith) all in
        ap (λ r. r ++ joined_lists (map (values_at (p ∷ ps)) (range_with_len (a + 1) n))) none ∙ later above
        ∙ ap (λ r. p.1 ∷ (r ++ joined_lists (map (values_at ps) (range_with_len (a + 1) n)))) (sym none)

-- ---- all values

at_least : {X : Type 0} (m : ℕ) (p : ℕ × X) (ps : List (ℕ × X)) → m ≤ p.0
    → is_never_falling (docs_of (p ∷ ps)) ≡ true → list_all (λ q. nat_le m q.0) ps ≡ true
at_least m p [] h e = refl
at_least m p (q ∷ ps) h e =
    let parts = and_parts (nat_le p.0 q.0) (is_never_falling (docs_of (q ∷ ps))) e in
    let here : m ≤ q.0 = grind arith in
    and_from (nat_le m q.0) _ (le-leb _ _ here) (at_least m q ps here parts.1)

-- a list that never falls never falls behind its first item
pub falls_later : (x : ℕ) (xs : List ℕ) → is_never_falling (x ∷ xs) ≡ true → is_never_falling xs ≡ true
falls_later x [] e = refl
falls_later x (y ∷ ys) e = (and_parts (nat_le x y) (is_never_falling (y ∷ ys)) e).1

all-none : {X : Type 0} (a n : ℕ) → joined_lists (map (values_at {X = X} []) (range_with_len a n)) ≡ []
all-none a zero = refl
all-none a (suc n) = all-none (a + 1) n

-- the rows one behind another are the values
pub joined-rows : {X : Type 0} (n : ℕ) (ps : List (ℕ × X)) → is_never_falling (docs_of ps) ≡ true
    → list_all (λ p. nat_lt p.0 n) ps ≡ true
    → joined_lists (picked_rows (range_with_len 0 n) ps) ≡ map (λ p. p.1) ps
unfolding picked_rows
joined-rows n [] e h = all-none 0 n
joined-rows n (p ∷ ps) e h =
    let parts = and_parts (nat_lt p.0 n) (list_all (λ q. nat_lt q.0 n) ps) h in
    let high : p.0 < 0 + n = grind arith in
    joined-first p ps 0 n (at_least p.0 p ps (omega arith) e) (omega arith) high
    ∙ ap (λ r. p.1 ∷ r) (joined-rows n ps (falls_later p.0 (docs_of ps) e) parts.1)

-- ---- cuts

map-take : {A B : Type 0} (f : A → B) (n : ℕ) (xs : List A) → map f (take n xs) ≡ take n (map f xs)
map-take f zero xs = refl
map-take f (suc n) [] = refl
map-take f (suc n) (x ∷ xs) = ap (λ r. f x ∷ r) (map-take f n xs)

map-drop : {A B : Type 0} (f : A → B) (n : ℕ) (xs : List A) → map f (drop n xs) ≡ drop n (map f xs)
map-drop f zero xs = refl
map-drop f (suc n) [] = refl
map-drop f (suc n) (x ∷ xs) = map-drop f n xs

-- the lengths of rows sum up to the length of the rows joined
pub sum-lengths : {A : Type 0} (xss : List (List A)) → sum (map length xss) ≡ length (joined_lists xss)
sum-lengths [] = refl
sum-lengths (xs ∷ xss) =
    sum_by-cons (λ x. x) (length xs) (map length xss) ∙ ap (λ k. length xs + k) (sum-lengths xss)
    ∙ sym (length-append xs (joined_lists xss))

-- ---- counts

-- as many pairs have the document as documents are it
filters : {X : Type 0} (ps : List (ℕ × X)) (d : ℕ) → length (filter (λ p. p.0 == d) ps) ≡ length (filter (λ x. x == d) (docs_of ps))
filters [] d = refl
filters {X} (p ∷ ps) d =
    elim (p.0 == d) as (λ b. length (cond b (p ∷ filter (λ q. q.0 == d) ps) (filter (λ q. q.0 == d) ps)) ≡ length
    (cond b (p.0 ∷ filter (λ x. x == d) (docs_of ps)) (filter (λ x. x == d) (docs_of ps)))) [
      | true ↦ ap suc (filters ps d)
      | false ↦ filters ps d
    ]

count_at : {X : Type 0} (ps : List (ℕ × X)) (d : ℕ) → length (values_at ps d) ≡ count_by (λ x. x == d) (docs_of ps)
count_at ps d = length-map (filter (λ p. p.0 == d) ps) (λ q. q.1) ∙ filters ps d ∙ length-filter (λ x. x == d) (docs_of ps)

-- the rows are as long as their documents are counted
pub lengths-picked : {X : Type 0} (ds : List ℕ) (ps : List (ℕ × X))
    → map length (picked_rows ds ps) ≡ map (λ d. count_by (λ x. x == d) (docs_of ps)) ds
unfolding picked_rows
lengths-picked [] ps = refl
lengths-picked (d ∷ ds) ps = λ i. count_at ps d i ∷ lengths-picked ds ps i

-- ---- documents beside values

below-zip : {X : Type 0} (n : ℕ) (docs : List ℕ) (xs : List X) → are_below n docs ≡ true → list_all (λ p. nat_lt p.0 n) (zip docs xs) ≡ true
below-zip n [] xs e = refl
below-zip n (d ∷ docs) [] e = refl
below-zip n (d ∷ docs) (x ∷ xs) e =
    let parts = and_parts (nat_lt d n) (list_all (λ y. nat_lt y n) docs) e in
    and_from (nat_lt d n) (list_all (λ p. nat_lt p.0 n) (zip docs xs)) parts.0 (below-zip n docs xs parts.1)

-- values whose documents never fall are the rows of these, one behind another
pub joined-zip : {X : Type 0} (n : ℕ) (docs : List ℕ) (xs : List X) → is_never_falling docs ≡ true
    → are_below n docs ≡ true → length docs ≡ length xs
    → joined_lists (picked_rows (range_with_len 0 n) (zip docs xs)) ≡ xs
joined-zip n docs xs fall below beside =
    joined-rows n (zip docs xs) (ap is_never_falling (firsts-zip docs xs (sym beside)) ∙ fall)
    (below-zip n docs xs below) ∙ seconds-zip docs xs (sym beside)

-- and as many as they are counted
pub lengths-zip : {X : Type 0} (ds docs : List ℕ) (xs : List X) → length docs ≡ length xs
    → map length (picked_rows ds (zip docs xs)) ≡ map (λ d. count_by (λ x. x == d) docs) ds
lengths-zip ds docs xs beside =
    lengths-picked ds (zip docs xs)
    ∙ ap (λ r. map (λ d. count_by (λ x. x == d) r) ds) (firsts-zip docs xs (sym beside))

-- so they are cut into the rows by the counts
pub cut-zip : {X : Type 0} (n : ℕ) (docs : List ℕ) (xs : List X) → is_never_falling docs ≡ true
    → are_below n docs ≡ true → length docs ≡ length xs
    → picked_rows (range_with_len 0 n) (zip docs xs) ≡ cut (counts_of_rows n docs) xs
unfolding counts_of_rows
cut-zip n docs xs fall below beside =
    let rows = picked_rows (range_with_len 0 n) (zip docs xs) in
    sym (cut-joined rows) ∙ (λ i. cut (lengths-zip (range_with_len 0 n) docs xs beside i) (joined-zip n docs xs fall below beside i))

-- the counts of all rows are as many as the documents
pub sum-counts : (n : ℕ) (docs : List ℕ) → is_never_falling docs ≡ true → are_below n docs ≡ true
    → sum (counts_of_rows n docs) ≡ length docs
unfolding counts_of_rows
sum-counts n docs fall below =
    let rows = picked_rows (range_with_len 0 n) (zip docs docs) in
    ap sum (sym (lengths-zip (range_with_len 0 n) docs docs refl)) ∙ sum-lengths rows ∙ ap length (joined-zip n docs docs fall below refl)

-- ---- documents of which each has one row at most

counted_by : (f g : ℕ → ℕ) (ds : List ℕ) → sum (map (λ d. f d + g d) ds) ≡ sum (map f ds) + sum (map g ds)
counted_by f g [] = refl
counted_by f g (d ∷ ds) =
    let rest = counted_by f g ds in
    omega (
      arith,
      rest,
      sum_by-cons (λ x. x) (f d + g d) (map (λ e. f e + g e) ds),
      sum_by-cons (λ x. x) (f d) (map f ds),
      sum_by-cons (λ x. x) (g d) (map g ds),
    )

flipped : (x d : ℕ) → (x == d) ≡ (d == x)
flipped x d = by (x == d) refl (d == x) refl
  where
    by : (a : Bool) → (x == d) ≡ a → (b : Bool) → (d == x) ≡ b → a ≡ b
    by true e true f = refl
    by false e false f = refl
    by true e false f = grind arith
    by false e true f = grind arith

once-counted : (x : ℕ) (ds : List ℕ) → sum (map (λ d. cond (x == d) 1 0) ds) ≡ count_by (λ d. d == x) ds
once-counted x ds = sum-map (λ d. cond (x == d) 1 0) ds ∙ go ds
  where
    go : (ds : List ℕ) → sum_by (λ d. cond (x == d) 1 0) ds ≡ sum_by (λ d. cond (d == x) 1 0) ds
    go [] = refl
    go (d ∷ ds) =
        sum_by-cons (λ d. cond (x == d) 1 0) d ds ∙ (λ i. cond (flipped x d i) 1 0 + go ds i)
        ∙ sym (sum_by-cons (λ d. cond (d == x) 1 0) d ds)

counts-cons : (x : ℕ) (docs ds : List ℕ)
    → sum (map (λ d. count_by (λ y. y == d) (x ∷ docs)) ds)
    ≡ sum (map (λ d. cond (x == d) 1 0 + count_by (λ y. y == d) docs) ds)
counts-cons x docs [] = refl
counts-cons x docs (d ∷ ds) =
    sum_by-cons (λ x. x) (count_by (λ y. y == d) (x ∷ docs)) (map (λ d. count_by (λ y. y == d) (x ∷ docs)) ds)
    ∙ (λ i. sum_by-cons (λ y. cond (y == d) 1 0) x docs i + counts-cons x docs ds i)
    ∙ sym (sum_by-cons (λ x. x) (cond (x == d) 1 0 + count_by (λ y. y == d) docs)
    (map (λ d. cond (x == d) 1 0 + count_by (λ y. y == d) docs) ds))

-- rows have no more values than there are
pub few-picked : (docs ds : List ℕ) → ((d : ℕ) → count_by (λ x. x == d) ds ≤ 1)
    → sum (map (λ d. count_by (λ x. x == d) docs) ds) ≤ length docs
few-picked [] ds once = none ds
  where
    none : (ds : List ℕ) → sum (map (λ d. count_by (λ x. x == d) []) ds) ≤ 0
    none [] = omega arith
    none (d ∷ ds) = omega (arith, none ds, sum_by-cons (λ x. x) 0 (map (λ d. count_by (λ x. x == d) []) ds))
few-picked (x ∷ docs) ds once =
    let counts = λ (d : ℕ). count_by (λ y. y == d) docs in
    omega (arith, counts-cons x docs ds, counted_by (λ d. cond (x == d) 1 0) counts ds, once-counted x ds, once x, few-picked docs ds once)

-- the values of the rows are as many as they are counted
pub placed-sum : {X : Type 0} (ds docs : List ℕ) (xs : List X)
    → sum (map length (picked_rows ds (zip docs xs))) ≡ length (joined_lists (picked_rows ds (zip docs xs)))
placed-sum ds docs xs = sum-lengths (picked_rows ds (zip docs xs))

-- rows with differing documents hold at most as many values as there are
pub placed-few : {X : Type 0} (ds docs : List ℕ) (xs : List X) → length docs ≡ length xs → AreRowDocs (length ds) ds
    → length (joined_lists (picked_rows ds (zip docs xs))) ≤ length docs
placed-few ds docs xs beside h = omega (arith, placed-sum ds docs xs, ap sum (lengths-zip ds docs xs beside), few-picked docs ds h.once)

-- there is one count for each row
pub placed-count : {X : Type 0} (ds docs : List ℕ) (xs : List X) → length (map length (picked_rows ds (zip docs xs))) ≡ length ds
unfolding picked_rows
placed-count ds docs xs = length-map (map (values_at (zip docs xs)) ds) length ∙ length-map ds (values_at (zip docs xs))

-- a list that is lent whole has what was written
pub lent-whole : {A : Type 0} (n : ℕ) (new rest : List A) → length new ≡ n → take n (new ++ rest) ≡ new
lent-whole n new rest e = ap (λ k. take k (new ++ rest)) (sym e) ∙ take-append_seam new rest
