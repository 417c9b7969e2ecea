-- Rows that are added in blocks.
use Rattle.std.proofs.Common.{◌≡◌, ℕ, zero, suc, ◌+◌, ◌-◌, ◌<◌, ◌≤◌, List, [], ◌∷◌, ◌++◌, map, take, drop, get_or, length, set, sym, ◌∙◌, ap, arith}
use Rattle.std.specs.Prelude.{Option, option_map}
use Rattle.std.specs.List.{AllByRecursion, range_with_len}
use Rattle.std.proofs.lemmas.List.{get_or-map, length-map, take_more_set}
use Rattle.std.proofs.lemmas.List.FromFn.{length-map-range_with_len}
use Rattle.col_model.proofs.ListLaws.{range-more}
use Rattle.col_model.specs.Index.{Shape}
use Rattle.col_column.specs.Columns.{first_at, row_count, rows_by}
use Rattle.col_column.proofs.FirstLemmas.{length-rows}
use Rattle.col_sort.specs.Firsts.{first_keys}
use Rattle.col_sort.proofs.FirstLemmas.{length-first_keys, first_key-at, next-at, added-next, added-last}
use Rattle.col_sort_rows.specs.Keys.{rows_from, SplitRows, added}
use Rattle.col_sort_rows.proofs.AddedLemmas.{added-more}

-- ---- the documents of a block

-- one more
pub numbered-more : (docs : List ℕ) (start j : ℕ) → j < length docs → take j docs ≡ range_with_len start j
    → take (j + 1) (set docs j (start + j)) ≡ range_with_len start (j + 1)
numbered-more docs start j h e =
    take_more_set docs j (start + j) h ∙ ap (λ ds. ds ++ (start + j) ∷ []) e ∙ sym (range-more start j)

-- they lie below the end
pub range-below : (bound a n : ℕ) → a + n ≤ bound → AllByRecursion (λ x. x < bound) (range_with_len a n)
range-below bound a zero h = tt
range-below bound a (suc n) h = (omega arith, range-below bound (a + 1) n (omega arith))

-- ---- the rows of a block

-- the row at a place
pub pushed-next : {T K : Type 0} (key : T → K) (os : List (Option T)) (now next all : SplitRows K) (n start j : ℕ) (o : Option T)
    (k : Option K) → j < length os → o ≡ get_or os j o → k ≡ option_map key o
    → added now (rows_from n (start + j) (drop j (map (option_map key) os))) ≡ all → next ≡ added now (((n, start + j), k) ∷ [])
    → added next (rows_from n (start + (j + 1)) (drop (j + 1) (map (option_map key) os))) ≡ all
pushed-next key os now next all n start j o k h at is e more =
    let ks = map (option_map key) os in
    let here : k ≡ get_or ks j k = is ∙ ap (option_map key) at ∙ sym (get_or-map (option_map key) os j o k h) in
    let long = length-map os (option_map key) in
    let same : start + (j + 1) ≡ start + j + 1 = omega arith in
    ap (λ d. added next (rows_from n d (drop (j + 1) ks))) same
    ∙ added-next now next all n (start + j) j k ks (omega (arith, long, h)) here e more

-- no row is left
pub pushed-last : {T K : Type 0} (key : T → K) (os : List (Option T)) (now all : SplitRows K) (n d j : ℕ) → length os ≤ j
    → added now (rows_from n d (drop j (map (option_map key) os))) ≡ all → now ≡ all
pushed-last key os now all n d j h e =
    added-last now all n d j (map (option_map key) os) (let long = length-map os (option_map key) in omega (arith, long)) e

-- ---- blocks one after another

rows_from-append : {K : Type 0} (n d : ℕ) (xs ys : List (Option K))
    → rows_from n d (xs ++ ys) ≡ rows_from n d xs ++ rows_from n (d + length xs) ys
unfolding rows_from
rows_from-append n d [] ys = let same : d ≡ d + 0 = omega arith in ap (λ m. rows_from n m ys) same
rows_from-append n d (x ∷ xs) ys =
    let same : d + 1 + length xs ≡ d + suc (length xs) = omega arith in
    ap (λ r. ((n, d), x) ∷ r) (rows_from-append n (d + 1) xs ys ∙ ap (λ m. rows_from n (d + 1) xs ++ rows_from n m ys) same)

-- the keys of a block of rows stand in front of those that are left behind it
firsts-block : {T K : Type 0} (key : T → K) (rows : List (List T)) (d n : ℕ) → d + n ≤ length rows
    → drop d (first_keys key rows)
    ≡ map (option_map key) (map (first_at rows) (range_with_len d n)) ++ drop (d + n) (first_keys key rows)
firsts-block key rows d zero h = let same : d ≡ d + 0 = omega arith in ap (λ m. drop m (first_keys key rows)) same
firsts-block key rows d (suc n) h =
    let same : d + 1 + n ≡ d + suc n = omega arith in
    let part = map (option_map key) (map (first_at rows) (range_with_len (d + 1) n)) in
    let long = length-first_keys key rows in
    next-at (first_keys key rows) d (option_map key (first_at rows d)) (omega (arith, long, h)) (first_key-at key rows d _ (omega arith))
    ∙ ap (λ ks. option_map key (first_at rows d) ∷ ks)
    (firsts-block key rows (d + 1) n (omega arith) ∙ ap (λ m. part ++ drop m (first_keys key rows)) same)

-- the block of documents from one up to another, of those that are left
pub block-next : {T K : Type 0} (key : T → K) (shape : Shape) (xs : List T) (now next all : SplitRows K) (n d e count : ℕ)
    (read : List (Option T)) → count ≡ row_count shape (length xs) → d ≤ e → e ≤ count
    → read ≡ map (first_at (rows_by shape xs)) (range_with_len d (e - d))
    → next ≡ added now (rows_from n d (map (option_map key) read))
    → added now (rows_from n d (drop d (first_keys key (rows_by shape xs)))) ≡ all
    → added next (rows_from n e (drop e (first_keys key (rows_by shape xs)))) ≡ all
block-next key shape xs now next all n d e count read counted from within is more left =
    let rows = rows_by shape xs in
    let ks = first_keys key rows in
    let part = map (option_map key) read in
    let many = length-rows shape xs in
    let upto : d + (e - d) ≡ e = omega arith in
    let cut : drop d ks ≡ part ++ drop e ks =
    firsts-block key rows d (e - d) (omega (arith, many, counted))
    ∙ (λ i. map (option_map key) (sym is i) ++ drop (upto i) ks) in
    let long : d + length part ≡ e =
    ap (λ m. d + m) (length-map read (option_map key) ∙ ap length is ∙ length-map-range_with_len (first_at rows) d (e - d)) ∙ upto in
    ap (λ r. added r (rows_from n e (drop e ks))) more ∙ added-more now (rows_from n d part) (rows_from n e (drop e ks))
    ∙ ap (added now) (ap (λ m. rows_from n d part ++ rows_from n m (drop e ks)) (sym long)
    ∙ sym (rows_from-append n d part (drop e ks)) ∙ ap (rows_from n d) (sym cut)) ∙ left

-- no block is left behind the last
pub blocks-end : {T K : Type 0} (key : T → K) (shape : Shape) (xs : List T) (now all : SplitRows K) (n d count : ℕ)
    → count ≡ row_count shape (length xs) → count ≤ d
    → added now (rows_from n d (drop d (first_keys key (rows_by shape xs)))) ≡ all → now ≡ all
blocks-end key shape xs now all n d count is h e =
    let many = length-first_keys key (rows_by shape xs) ∙ length-rows shape xs in
    added-last now all n d d (first_keys key (rows_by shape xs)) (omega (arith, many, is)) e

-- how far a block goes
pub block-long : {T : Type 0} (f : ℕ → T) (read : List T) (d e : ℕ) → d ≤ e → read ≡ map f (range_with_len d (e - d))
    → d + length read ≡ e
block-long f read d e h is =
    let upto : d + (e - d) ≡ e = omega arith in
    ap (λ m. d + m) (ap length is ∙ length-map-range_with_len f d (e - d)) ∙ upto
