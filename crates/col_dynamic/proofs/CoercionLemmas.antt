-- Cells of columns whose numbers are seen as those of another type.
use Rattle.std.proofs.Common.{◌≡◌, ◌∙◌, ℕ, ℤ, ◌&&◌, ◌^◌, pos, negsuc, nat_abs, Bool, true, false, List, [], ◌∷◌, ◌++◌, length, take, drop, sum, map, Option, Some, None, is_some, option_map, IfSome, refl, sym, ap, ap₂, subst, arith}
use Rattle.std.specs.List.{All, list_all}
use Rattle.std.proofs.lemmas.Bool.{and_parts}
use Rattle.std.proofs.lemmas.Bool.Decides.{nat_tests}
use Rattle.std.proofs.lemmas.Int.{ints}
use Rattle.std.proofs.lemmas.List.{take-append-drop, length-drop, length-map}
use Rattle.std.proofs.lemmas.Option.{same_Some}
use Rattle.std.proofs.lemmas.Simd.{map-map}
use Rattle.std.proofs.lemmas.List.Sums.{sum_by-cons, list_all-from_AllPass}
use Rattle.std.proofs.lemmas.List.Folds.{sum_by-replicate}
use Rattle.col_model.specs.Dictionary.{cut}
use Rattle.col_model.specs.Index.{Shape, empty_shape, full_shape, optional_shape, multivalued_shape}
use Rattle.col_model.specs.ColumnType as types
use Rattle.col_model.specs.Table.{Cell, Content, number}
use Rattle.col_text.specs.Offsets.{cardinality_in}
use Rattle.col_common.specs.Reading.{only_if}
use Rattle.col_values.specs.Monotonic.{Passes}
use Rattle.col_values.specs.Codes.{is_i64, is_below}
use Rattle.col_text.specs.Coercions.{fits_i64, is_not_negative}
use Rattle.col_types.specs.Cells.{unsigned_cell}
use Rattle.col_text.specs.Columns.{IsCounted, counts_by, rows_by, content_seen}
use Rattle.col_text.proofs.CellLemmas.{cut-map}
use Rattle.col_text.proofs.OpenCountLemmas.{is_some-only_if}
use Rattle.col_dynamic.specs.Dynamic.{is_of, fits_type}

all-append : {A : Type 0} (p : A → Bool) (xs ys : List A) → list_all p (xs ++ ys) ≡ (list_all p xs && list_all p ys)
all-append p [] ys = refl
all-append p (x ∷ xs) ys = by (p x) (all-append p xs ys)
  where
    by : (b : Bool) → list_all p (xs ++ ys) ≡ (list_all p xs && list_all p ys)
        → (b && list_all p (xs ++ ys)) ≡ ((b && list_all p xs) && list_all p ys)
    by true e = e
    by false e = refl

all-parts : {A : Type 0} (p : A → Bool) (n : ℕ) (xs : List A) → list_all p xs ≡ (list_all p (take n xs) && list_all p (drop n xs))
all-parts p n xs = ap (list_all p) (sym (take-append-drop n xs)) ∙ all-append p (take n xs) (drop n xs)

all-map : {A B : Type 0} (p : B → Bool) (f : A → B) (xs : List A) → list_all p (map f xs) ≡ list_all (λ x. p (f x)) xs
all-map p f [] = refl
all-map p f (x ∷ xs) = ap (λ b. p (f x) && b) (all-map p f xs)

-- a test of all cells of rows that have all values
all-cut : {T : Type 0} (p : Cell → Bool) (cell : T → Cell) (cs : List ℕ) (xs : List T) → sum cs ≡ length xs
    → list_all (list_all p) (map (map cell) (cut cs xs)) ≡ list_all (λ x. p (cell x)) xs
unfolding cut
all-cut p cell [] [] e = refl
all-cut p cell [] (x ∷ xs) e = absurd (omega arith)
all-cut p cell (c ∷ cs) xs e =
    let sized = sum_by-cons (λ c. c) c cs in
    let long = length-drop c xs in
    ap₂ (λ a b. a && b) (all-map p cell (take c xs)) (all-cut p cell cs (drop c xs) (omega arith))
    ∙ sym (all-parts (λ x. p (cell x)) c xs)

sum-counts : {T : Type 0} (s : Shape) (xs : List T) → IsCounted s (length xs) → sum (counts_by s (length xs)) ≡ length xs
sum-counts (empty_shape m) xs none = sum_by-replicate (λ c. c) m 0 ∙ omega arith
sum-counts full_shape xs any = sum_by-replicate (λ c. c) (length xs) 1 ∙ omega arith
sum-counts (optional_shape cs) xs all = all
sum-counts (multivalued_shape cs) xs all = all

-- a test that the cells of all rows pass is one that the values pass
pub all-rows : {T : Type 0} (p : Cell → Bool) (cell : T → Cell) (s : Shape) (xs : List T) → IsCounted s (length xs)
    → list_all (list_all p) (map (map cell) (rows_by s xs)) ≡ list_all (λ x. p (cell x)) xs
unfolding rows_by
all-rows p cell s xs counted = all-cut p cell (counts_by s (length xs)) xs (sum-counts s xs counted)

-- ---- numbers of their own type

signed-all : (xs : List ℤ) → All (Passes is_i64) xs → list_all (λ z. is_of types.i64 (number z)) xs ≡ true
signed-all xs h = list_all-from_AllPass is_i64 xs h

unsigned-is : (n : ℕ) → is_of types.u64 (unsigned_cell n) ≡ is_below (2 ^ 64) n
unsigned-is n = grind (arith, ints, nat_tests)

unsigned-all : (xs : List ℕ) → All (Passes (is_below (2 ^ 64))) xs → list_all (λ n. is_of types.u64 (unsigned_cell n)) xs ≡ true
unsigned-all xs h = ap (λ p. list_all p xs) (λ i n. unsigned-is n i) ∙ list_all-from_AllPass (is_below (2 ^ 64)) xs h

-- a column of signed numbers of 64 bits fits i64
pub own_i64 : (s : Shape) (xs : List ℤ) → IsCounted s (length xs) → All (Passes is_i64) xs
    → fits_type types.i64 types.i64 (content_seen [] number s xs) ≡ true
own_i64 s xs counted all = all-rows (is_of types.i64) number s xs counted ∙ signed-all xs all

-- a column of numbers below 2 ^ 64 fits u64
pub own_u64 : (s : Shape) (xs : List ℕ) → IsCounted s (length xs) → All (Passes (is_below (2 ^ 64))) xs
    → fits_type types.u64 types.u64 (content_seen [] unsigned_cell s xs) ≡ true
own_u64 s xs counted all = all-rows (is_of types.u64) unsigned_cell s xs counted ∙ unsigned-all xs all

-- ---- numbers of the other type

fits-is : (n : ℕ) → is_of types.i64 (unsigned_cell n) ≡ fits_i64 n
fits-is n = grind (arith, ints, nat_tests)

-- a column of u64 fits i64 where each of its numbers does
pub other_i64 : (s : Shape) (xs : List ℕ) → IsCounted s (length xs)
    → fits_type types.i64 types.u64 (content_seen [] unsigned_cell s xs) ≡ list_all fits_i64 xs
other_i64 s xs counted = all-rows (is_of types.i64) unsigned_cell s xs counted ∙ ap (λ p. list_all p xs) (λ i n. fits-is n i)

-- ---- the same numbers under another type

-- rows that are mapped twice are mapped by both in one
pub maps : {A B C : Type 0} (g : B → C) (f : A → B) (rows : List (List A)) → map (map g) (map (map f) rows) ≡ map (map (λ x. g (f x))) rows
maps g f [] = refl
maps g f (row ∷ rows) = ap₂ (λ a b. a ∷ b) (map-map g f row) (maps g f rows)

-- numbers without a sign are those with one
seen_signed : (s : Shape) (ys : List ℕ) → content_seen [] number s (map pos ys) ≡ content_seen [] unsigned_cell s ys
unfolding rows_by
seen_signed s ys =
    let long : counts_by s (length (map pos ys)) ≡ counts_by s (length ys) = ap (counts_by s) (length-map ys pos) in
    let rows : map (map number) (cut (counts_by s (length (map pos ys))) (map pos ys)) ≡ map (map unsigned_cell)
    (cut (counts_by s (length ys)) ys) =
    ap (λ cs. map (map number) (cut cs (map pos ys))) long
    ∙ ap (map (map number)) (cut-map pos (counts_by s (length ys)) ys)
    ∙ maps number pos (cut (counts_by s (length ys)) ys)
    in
    ap (λ r. record { cardinality = cardinality_in s; terms = []; rows = r }) rows

is_some-map : {A B : Type 0} (f : A → B) (o : Option A) → is_some (option_map f o) ≡ is_some o
is_some-map f None = refl
is_some-map f (Some x) = refl

-- an answer is there exactly where the values are
pub there : {D V B : Type 0} (view : D → Content) (g : V → Content) (list : V → List B) (r : Option D)
    (o : Option V) (b : Bool) (ys : List B) → option_map view r ≡ option_map g o → option_map list o ≡ only_if b ys
    → is_some r ≡ b
there view g list r o b ys seen made =
    sym (is_some-map view r) ∙ ap is_some seen ∙ is_some-map g o ∙ sym (is_some-map list o) ∙ ap is_some made ∙ is_some-only_if b ys

-- and then it has the same cells
pub as_signed : {D V : Type 0} (view : D → Content) (list : V → List ℤ) (r : Option D) (o : Option V) (s : Shape)
    (xs : List ℕ) (b : Bool) → option_map view r ≡ option_map (λ v. content_seen [] number s (list v)) o
    → option_map list o ≡ only_if b (map pos xs) → IfSome r (λ d. view d ≡ content_seen [] unsigned_cell s xs)
as_signed view list None o s xs b seen made = tt
as_signed view list (Some d) None s xs b seen made = cc
as_signed view list (Some d) (Some v) s xs false seen made = cc
as_signed view list (Some d) (Some v) s xs true seen made =
    same_Some (view d) (content_seen [] number s (list v)) seen
    ∙ ap (content_seen [] number s) (same_Some (list v) (map pos xs) made)
    ∙ seen_signed s xs

-- ---- signed numbers that are at least 0

back : (xs : List ℤ) → list_all is_not_negative xs ≡ true → map pos (map nat_abs xs) ≡ xs
back [] all = refl
back (pos n ∷ xs) all = ap (λ xs. pos n ∷ xs) (back xs (and_parts (is_not_negative (pos n)) (list_all is_not_negative xs) all).1)
back (negsuc n ∷ xs) all = cc

fits-u64 : (z : ℤ) → is_i64 z ≡ true → is_of types.u64 (number z) ≡ is_not_negative z
fits-u64 z h = grind (arith, ints, nat_tests)

all-fit : (xs : List ℤ) → list_all is_i64 xs ≡ true → list_all (λ z. is_of types.u64 (number z)) xs ≡ list_all is_not_negative xs
all-fit [] h = refl
all-fit (z ∷ xs) h =
    let p = and_parts (is_i64 z) (list_all is_i64 xs) h in
    ap₂ (λ a b. a && b) (fits-u64 z p.0) (all-fit xs p.1)

-- a column of i64 fits u64 where none of its numbers is negative
pub other_u64 : (s : Shape) (xs : List ℤ) → IsCounted s (length xs) → All (Passes is_i64) xs
    → fits_type types.u64 types.i64 (content_seen [] number s xs) ≡ list_all is_not_negative xs
other_u64 s xs counted each = all-rows (is_of types.u64) number s xs counted ∙ all-fit xs (list_all-from_AllPass is_i64 xs each)

-- a column of i64 that is seen as u64 holds the same cells
pub as_unsigned : {D V : Type 0} (view : D → Content) (list : V → List ℕ) (r : Option D) (o : Option V) (s : Shape)
    (xs : List ℤ) (b : Bool) → list_all is_not_negative xs ≡ b
    → option_map view r ≡ option_map (λ v. content_seen [] unsigned_cell s (list v)) o
    → option_map list o ≡ only_if b (map nat_abs xs) → IfSome r (λ d. view d ≡ content_seen [] number s xs)
as_unsigned view list None o s xs b all seen made = tt
as_unsigned view list (Some d) None s xs b all seen made = cc
as_unsigned view list (Some d) (Some v) s xs false all seen made = cc
as_unsigned view list (Some d) (Some v) s xs true all seen made =
    same_Some (view d) (content_seen [] unsigned_cell s (list v)) seen
    ∙ ap (content_seen [] unsigned_cell s) (same_Some (list v) (map nat_abs xs) made)
    ∙ sym (seen_signed s (map nat_abs xs))
    ∙ ap (content_seen [] number s) (back xs all)

-- the index counts the numbers as it counted the others
pub still_counted :
    {A B V : Type 0} (list : V → List B) (o : Option V) (s : Shape) (f : A → B) (xs : List A) (b : Bool)
    → IsCounted s (length xs) → option_map list o ≡ only_if b (map f xs)
    → IfSome o (λ v. IsCounted s (length (list v)))
still_counted list None s f xs b counted made = tt
still_counted list (Some v) s f xs false counted made = cc
still_counted list (Some v) s f xs true counted made =
    subst (IsCounted s) (sym (ap length (same_Some (list v) (map f xs) made) ∙ length-map xs f)) counted
