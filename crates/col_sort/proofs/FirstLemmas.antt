-- Keys of the first values of rows, one after another.
use Rattle.std.proofs.Common.{◌≡◌, ℕ, zero, suc, ◌+◌, ◌<◌, ◌≤◌, List, [], ◌∷◌, map, drop, take, replicate, length, get_or, refl, sym, ◌∙◌, ap, add-one, arith}
use Rattle.std.specs.Prelude.{Option, None, IfSome, option_map, slice_get}
use Rattle.std.specs.List.{AllByRecursion}
use Rattle.std.proofs.Math.ListN.{drop_of_length-le}
use Rattle.std.proofs.Math.Seq.{drop-cons}
use Rattle.std.proofs.lemmas.List.{length-map}
use Rattle.col_model.specs.Dictionary.{cut}
use Rattle.col_model.specs.Index.{Shape, empty_shape}
use Rattle.col_column.specs.Columns.{first_at, counts_by, rows_by}
use Rattle.col_sort.specs.Firsts.{first_keys}
use Rattle.col_sort_rows.specs.Keys.{rows_from, SplitRows, added}
use Rattle.col_sort_rows.proofs.AddedLemmas.{added-first, added-end}

-- as many as rows
pub length-first_keys : {T K : Type 0} (key : T → K) (rows : List (List T)) → length (first_keys key rows) ≡ length rows
unfolding first_keys
length-first_keys key rows = length-map rows (λ row. option_map key (slice_get row 0))

-- the key of a row
pub first_key-at : {T K : Type 0} (key : T → K) (rows : List (List T)) (d : ℕ) (k : Option K) → d < length rows
    → option_map key (first_at rows d) ≡ get_or (first_keys key rows) d k
unfolding first_keys
first_key-at key [] d k h = absurd (omega arith)
first_key-at key (row ∷ rows) zero k h = refl
first_key-at key (row ∷ rows) (suc d) k h = first_key-at key rows d k (omega arith)

-- the item at a place, and those behind it
pub next-at : {A : Type 0} (xs : List A) (j : ℕ) (x : A) → j < length xs → x ≡ get_or xs j x → drop j xs ≡ x ∷ drop (j + 1) xs
next-at xs j x h e = drop-cons xs j x h ∙ (λ i. sym e i ∷ drop (sym (add-one j) i) xs)

-- the row at a place, of those that are left
pub added-next : {K : Type 0} (now next all : SplitRows K) (n d j : ℕ) (k : Option K) (ks : List (Option K))
    → j < length ks → k ≡ get_or ks j k → added now (rows_from n d (drop j ks)) ≡ all → next ≡ added now (((n, d), k) ∷ [])
    → added next (rows_from n (d + 1) (drop (j + 1) ks)) ≡ all
added-next now next all n d j k ks h at e is =
    added-first now next all n d k (drop (j + 1) ks) (ap (λ ks. added now (rows_from n d ks)) (sym (next-at ks j k h at)) ∙ e) is

-- none is left
pub added-last : {K : Type 0} (now all : SplitRows K) (n d j : ℕ) (ks : List (Option K)) → length ks ≤ j
    → added now (rows_from n d (drop j ks)) ≡ all → now ≡ all
added-last now all n d j ks h e = added-end now all n d (ap (λ ks. added now (rows_from n d ks)) (sym (drop_of_length-le ks h)) ∙ e)

-- ---- rows that values are cut into

all-behind : {A : Type 0} (P : A → Type 0) (n : ℕ) (xs : List A) → AllByRecursion P xs → AllByRecursion P (drop n xs)
all-behind P zero xs h = h
all-behind P (suc n) [] h = tt
all-behind P (suc n) (x ∷ xs) h = all-behind P n xs h.1

first-front : {A : Type 0} (P : A → Type 0) (n : ℕ) (xs : List A) → AllByRecursion P xs → IfSome (slice_get (take n xs) 0) P
first-front P zero xs h = tt
first-front P (suc n) [] h = tt
first-front P (suc n) (x ∷ xs) h = h.0

firsts-cut : {A : Type 0} (P : A → Type 0) (cs : List ℕ) (xs : List A) → AllByRecursion P xs
    → AllByRecursion (λ row. IfSome (slice_get row 0) P) (cut cs xs)
unfolding cut
firsts-cut P [] xs h = tt
firsts-cut P (c ∷ cs) xs h = (first-front P c xs h, firsts-cut P cs (drop c xs) (all-behind P c xs h))

-- what values keep, the first ones of rows keep
pub firsts-keep : {A : Type 0} (P : A → Type 0) (shape : Shape) (xs : List A) → AllByRecursion P xs
    → AllByRecursion (λ row. IfSome (slice_get row 0) P) (rows_by shape xs)
unfolding rows_by
firsts-keep P shape xs h = firsts-cut P (counts_by shape (length xs)) xs h

-- rows without values have no keys
none-cut : {T K : Type 0} (key : T → K) (n : ℕ) (xs : List T)
    → map (λ row. option_map key (slice_get row 0)) (cut (replicate n 0) xs) ≡ replicate n None
unfolding cut
none-cut key zero xs = refl
none-cut key (suc n) xs = ap (λ r. None ∷ r) (none-cut key n xs)

pub none-first : {T K : Type 0} (key : T → K) (n : ℕ) (xs : List T) → first_keys key (rows_by (empty_shape n) xs) ≡ replicate n None
unfolding rows_by first_keys
none-first key n xs = none-cut key n xs
