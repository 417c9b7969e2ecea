-- The first keys of documents.
use Rattle.std.proofs.Common.{◌≡◌, ◌<◌, ◌≤◌, ℕ, zero, suc, ◌+◌, ◌-◌, List, [], ◌∷◌, ◌++◌, length, map, take, get_or, replicate, Bool, true, false, cond, Some, None, refl, sym, ◌∙◌, ap, arith, lt-ltb}
use Rattle.std.specs.Prelude.{nat_le, nat_lt, ◌==◌, ◌||◌, slice_get, slice_set, filter, unwrap_or}
use Rattle.std.specs.List.{list_all, list_any, last_or, zip, range_with_len}
use Rattle.std.proofs.lemmas.Bool.{and_parts, and_from}
use Rattle.std.proofs.lemmas.List.FromFn.{length-map-range_with_len, get_or-map-range_with_len}
use Rattle.std.proofs.lemmas.List.Folds.{list_all-append}
use Rattle.std.proofs.lemmas.Grind.{same_number_lists}
use Rattle.col_common.specs.Ascending.{is_never_falling}
use Rattle.col_writer_rows.proofs.DocumentLemmas.{last_or-found}
use Rattle.col_writer_columns.specs.Sorting.{first_key, with_first}
use Rattle.col_writer_columns.proofs.CardinalityLemmas.{last-greatest}

-- each key is above 0
abbrev pub are_above : List (ℕ × ℕ) → Bool
are_above ps = list_all (λ (p : ℕ × ℕ). nat_lt 0 p.1) ps

-- one key more
first-more : (ps : List (ℕ × ℕ)) (doc k d : ℕ) → are_above ps ≡ true
    → first_key (ps ++ (doc, k) ∷ []) d ≡ cond (first_key ps d == 0) (cond (doc == d) k 0) (first_key ps d)
unfolding first_key
first-more [] doc k d e = by (doc == d)
  where
    by : (b : Bool) → unwrap_or (slice_get (map (λ (p : ℕ × ℕ). p.1) (cond b ((doc, k) ∷ []) [])) 0) 0 ≡ cond b k 0
    by true = refl
    by false = refl
first-more (p ∷ ps) doc k d e =
    let parts = and_parts (nat_lt 0 p.1) (are_above ps) e in
    by (p.0 == d) parts.0 (first-more ps doc k d parts.1)
  where
    first : List (ℕ × ℕ) → ℕ
    first qs = unwrap_or (slice_get (map (λ (p : ℕ × ℕ). p.1) qs) 0) 0

    by : (b : Bool) → nat_lt 0 p.1 ≡ true
        → first (filter (λ q. q.0 == d) (ps ++ (doc, k) ∷ []))
        ≡ cond (first (filter (λ q. q.0 == d) ps) == 0) (cond (doc == d) k 0) (first (filter (λ q. q.0 == d) ps)) →
        first (cond b (p ∷ filter (λ q. q.0 == d) (ps ++ (doc, k) ∷ [])) (filter (λ q. q.0 == d) (ps ++ (doc, k) ∷ [])))
        ≡ cond (first (cond b (p ∷ filter (λ q. q.0 == d) ps) (filter (λ q. q.0 == d) ps)) == 0)
        (cond (doc == d) k 0) (first (cond b (p ∷ filter (λ q. q.0 == d) ps) (filter (λ q. q.0 == d) ps)))
    by true above rest = let some : (p.1 == 0) ≡ false = grind arith in sym (ap (λ c. cond c (cond (doc == d) k 0) p.1) some)
    by false above rest = rest

-- ---- a list with the first key of each document

length-set : (xs : List ℕ) (k x : ℕ) → length (slice_set xs k x) ≡ length xs
length-set [] k x = refl
length-set (y ∷ ys) zero x = refl
length-set (y ∷ ys) (suc k) x = ap suc (length-set ys k x)

set-same : (xs : List ℕ) (k x d : ℕ) → k < length xs → get_or (slice_set xs k x) k d ≡ x
set-same [] k x d h = absurd (omega arith)
set-same (y ∷ ys) zero x d h = refl
set-same (y ∷ ys) (suc k) x d h = set-same ys k x d (omega arith)

set-other : (xs : List ℕ) (k j x d : ℕ) → (j == k) ≡ false → get_or (slice_set xs k x) j d ≡ get_or xs j d
set-other [] k j x d e = refl
set-other (y ∷ ys) zero zero x d e = cc
set-other (y ∷ ys) zero (suc j) x d e = refl
set-other (y ∷ ys) (suc k) zero x d e = refl
set-other (y ∷ ys) (suc k) (suc j) x d e = set-other ys k j x d (grind arith)

firsts_of : ℕ → List (ℕ × ℕ) → List ℕ
firsts_of n ps = map (first_key ps) (range_with_len 0 n)

length-firsts : (n : ℕ) (ps : List (ℕ × ℕ)) → length (firsts_of n ps) ≡ n
unfolding firsts_of
length-firsts n ps = length-map-range_with_len (first_key ps) 0 n

firsts-at : (n : ℕ) (ps : List (ℕ × ℕ)) (j : ℕ) → j < n → get_or (firsts_of n ps) j 0 ≡ first_key ps j
unfolding firsts_of
firsts-at n ps j h = get_or-map-range_with_len (first_key ps) 0 n j j 0 h (omega arith)

length-with : (ns : List ℕ) (d k : ℕ) → length (with_first ns d k) ≡ length ns
length-with ns d k = by (get_or ns d 0 == 0)
  where
    by : (b : Bool) → length (cond b (slice_set ns d k) ns) ≡ length ns
    by true = length-set ns d k
    by false = refl

with-at : (ns : List ℕ) (d k j : ℕ) → d < length ns
    → get_or (with_first ns d k) j 0 ≡ cond (get_or ns j 0 == 0) (cond (d == j) k (get_or ns j 0)) (get_or ns j 0)
with-at ns d k j h = by (d == j) (get_or ns d 0 == 0) (get_or ns j 0 == 0) refl refl refl
  where
    by : (u b c : Bool) → (d == j) ≡ u → (get_or ns d 0 == 0) ≡ b → (get_or ns j 0 == 0) ≡ c
        → get_or (cond b (slice_set ns d k) ns) j 0 ≡ cond c (cond u k (get_or ns j 0)) (get_or ns j 0)
    by true true true e f g = let same : d ≡ j = grind arith in ap (λ x. get_or (slice_set ns d k) x 0) (sym same) ∙ set-same ns d k 0 h
    by true true false e f g = let same : d ≡ j = grind arith in let no : true ≡ false = sym f ∙ ap (λ x. get_or ns x 0 == 0) same ∙ g in cc
    by true false true e f g = let same : d ≡ j = grind arith in let no : false ≡ true = sym f ∙ ap (λ x. get_or ns x 0 == 0) same ∙ g in cc
    by true false false e f g = refl
    by false true true e f g = set-other ns d j k 0 (grind arith)
    by false true false e f g = set-other ns d j k 0 (grind arith)
    by false false true e f g = refl
    by false false false e f g = refl

-- the list with one key more
pub firsts-more : (n : ℕ) (ps : List (ℕ × ℕ)) (d k : ℕ) (ns ms : List ℕ) → are_above ps ≡ true → d < n
    → ns ≡ map (first_key ps) (range_with_len 0 n) → ms ≡ with_first ns d k
    → ms ≡ map (first_key (ps ++ (d, k) ∷ [])) (range_with_len 0 n)
unfolding firsts_of
firsts-more n ps d k ns ms above h is put =
    put ∙ ap (λ r. with_first r d k) is
    ∙ same_number_lists (with_first (firsts_of n ps) d k) (firsts_of n (ps ++ (d, k) ∷ []))
    (length-with (firsts_of n ps) d k ∙ length-firsts n ps ∙ sym (length-firsts n (ps ++ (d, k) ∷ [])))
    (λ j l.
    let low : j < n = omega (arith, l, length-with (firsts_of n ps) d k, length-firsts n ps) in
    with-at (firsts_of n ps) d k j (omega (arith, h, length-firsts n ps))
    ∙ ap (λ x. cond (x == 0) (cond (d == j) k x) x) (firsts-at n ps j low)
    ∙ none (first_key ps j) (d == j)
    ∙ sym (first-more ps d k j above) ∙ sym (firsts-at n (ps ++ (d, k) ∷ []) j low))
  where
    none : (x : ℕ) (u : Bool) → cond (x == 0) (cond u k x) x ≡ cond (x == 0) (cond u k 0) x
    none zero true = refl
    none zero false = refl
    none (suc x) u =
        let some : (suc x == 0) ≡ false = grind arith in ap (λ b. cond b (cond u k (suc x)) (suc x)) some ∙ sym
        (ap (λ b. cond b (cond u k 0) (suc x)) some)

-- without values all documents have the key 0
pub firsts-none : (n : ℕ) (ns : List ℕ) → ns ≡ replicate {A = ℕ} n 0 → ns ≡ map (first_key []) (range_with_len 0 n)
unfolding first_key
firsts-none n ns is = is ∙ zeros 0 n
  where
    zeros : (a n : ℕ) → replicate {A = ℕ} n 0 ≡ map (λ (d : ℕ). 0) (range_with_len a n)
    zeros a zero = refl
    zeros a (suc n) = ap (λ r. 0 ∷ r) (zeros (a + 1) n)

-- ---- documents beside keys

-- one value more of a list of documents and keys stands behind those before it
pub take-more : (docs keys : List ℕ) (i d k : ℕ) → length docs ≡ length keys → slice_get docs i ≡ Some d
    → slice_get keys i ≡ Some k → take (i + 1) (zip docs keys) ≡ take i (zip docs keys) ++ (d, k) ∷ []
take-more [] keys i d k e f g = absurd (not_some f)
  where
    not_some : None ≡ Some d → ⊥
    not_some e = cc
take-more (l ∷ docs) [] i d k e f g = absurd (omega arith)
take-more (l ∷ docs) (m ∷ keys) zero d k e f g = let first : l ≡ d = cc in let second : m ≡ k = cc in λ i. (first i, second i) ∷ []
take-more (l ∷ docs) (m ∷ keys) (suc i) d k e f g =
    let more : suc i + 1 ≡ suc (i + 1) = omega arith in
    ap (λ n. take n ((l, m) ∷ zip docs keys)) more ∙ ap (λ r. (l, m) ∷ r) (take-more docs keys i d k (omega arith) f g)

-- keys above 0 with one more above 0 are above 0
pub above-more : (ps : List (ℕ × ℕ)) (d k : ℕ) → are_above ps ≡ true → 0 < k → are_above (ps ++ (d, k) ∷ []) ≡ true
above-more ps d k e h =
    list_all-append (λ (p : ℕ × ℕ). nat_lt 0 p.1) ps ((d, k) ∷ [])
    ∙ and_from _ _ e (and_from _ true (lt-ltb _ _ h) refl)

-- where no document is left, all pairs were taken
pub all-taken : (docs keys : List ℕ) (i : ℕ) → length docs ≡ length keys → length docs ≤ i → take i (zip docs keys) ≡ zip docs keys
all-taken [] keys i e h = none i
  where
    none : (i : ℕ) → take {A = ℕ × ℕ} i [] ≡ []
    none zero = refl
    none (suc i) = refl
all-taken (l ∷ docs) [] i e h = absurd (omega arith)
all-taken (l ∷ docs) (m ∷ keys) zero e h = absurd (omega arith)
all-taken (l ∷ docs) (m ∷ keys) (suc i) e h = ap (λ r. (l, m) ∷ r) (all-taken docs keys i (omega arith) (omega arith))

-- ---- documents that aren't below a count

-- a document of a list of which none is past n is below n
pub doc-below : (n : ℕ) (docs : List ℕ) (k d : ℕ) → list_any (λ d. nat_le n d) docs ≡ false → slice_get docs k ≡ Some d → d < n
doc-below n [] k d e f = absurd (not_some f)
  where
    not_some : None ≡ Some d → ⊥
    not_some e = cc
doc-below n (x ∷ docs) k d e f = by (nat_le n x) refl e k f (λ j g h. doc-below n docs j d g h)
  where
    by : (b : Bool) → nat_le n x ≡ b → (b || list_any (λ d. nat_le n d) docs) ≡ false → (k : ℕ)
        → slice_get (x ∷ docs) k ≡ Some d
        → ((j : ℕ) → list_any (λ d. nat_le n d) docs ≡ false → slice_get docs j ≡ Some d → d < n) → d < n
    by true g e k f later = cc
    by false g e zero f later = let same : x ≡ d = cc in let low : x < n = grind arith in omega (arith, low, same)
    by false g e (suc k) f later = later k e f

any-last : (p : ℕ → Bool) (x : ℕ) (xs : List ℕ) (l : ℕ) → last_or (Some x) xs ≡ Some l → p l ≡ true → list_any p (x ∷ xs) ≡ true
any-last p x [] l e h = let same : x ≡ l = cc in ap (λ y. p y || false) same ∙ ap (λ b. b || false) h
any-last p x (y ∷ ys) l e h = ap (λ b. p x || b) (any-last p y ys l e h) ∙ always (p x)
  where
    always : (b : Bool) → (b || true) ≡ true
    always true = refl
    always false = refl

none-past : (n l : ℕ) (xs : List ℕ) → l < n → list_all (λ d. nat_le d l) xs ≡ true → list_any (λ d. nat_le n d) xs ≡ false
none-past n l [] h e = refl
none-past n l (x ∷ xs) h e =
    let parts = and_parts (nat_le x l) (list_all (λ d. nat_le d l) xs) e in
    let low : x ≤ l = grind arith in
    let less : x < n = omega arith in
    let here : nat_le n x ≡ false = grind arith in
    λ i. here i || none-past n l xs h parts.1 i

-- the last document tells
pub past-last : (n : ℕ) (docs : List ℕ) (k l : ℕ) → is_never_falling docs ≡ true → k ≡ length docs - 1
    → slice_get docs k ≡ Some l → nat_le n l ≡ list_any (λ d. nat_le n d) docs
past-last n [] k l fall at f = absurd (not_some f)
  where
    not_some : None ≡ Some l → ⊥
    not_some e = cc
past-last n (x ∷ xs) k l fall at f =
    let g = last-greatest x xs fall in
    let last : last_or (Some x) xs ≡ Some l = last_or-found None (x ∷ xs) l (ap (slice_get (x ∷ xs)) (sym at) ∙ f) in
    let same : g.0 ≡ l = some (sym g.1 ∙ last) in
    by (nat_le n l) refl last (ap (λ m. list_all (λ d. nat_le d m) (x ∷ xs)) (sym same) ∙ g.3)
  where
    some : {a b : ℕ} → Some a ≡ Some b → a ≡ b
    some e = cc

    by : (b : Bool) → nat_le n l ≡ b → last_or (Some x) xs ≡ Some l → list_all (λ d. nat_le d l) (x ∷ xs) ≡ true
        → b ≡ list_any (λ d. nat_le n d) (x ∷ xs)
    by true e last all = sym (any-last (λ d. nat_le n d) x xs l last e)
    by false e last all = let low : l < n = grind arith in sym (none-past n l (x ∷ xs) low all)

-- a list without documents has none past n
pub past-none : (n : ℕ) (docs : List ℕ) → length docs ≡ 0 → false ≡ list_any (λ d. nat_le n d) docs
past-none n [] e = refl
past-none n (d ∷ docs) e = absurd (omega arith)

-- there is one first key for each document
pub length-first_keys : (n : ℕ) (ps : List (ℕ × ℕ)) → length (map (first_key ps) (range_with_len 0 n)) ≡ n
length-first_keys n ps = length-map-range_with_len (first_key ps) 0 n
