-- Documents that never fall.
use Rattle.std.proofs.Common.{◌≡◌, ◌<◌, ◌≤◌, ℕ, zero, suc, drop, get_or, ◌+◌, ◌-◌, List, [], ◌∷◌, ◌++◌, length, Bool, true, false, Option, Some, None, unwrap_or, refl, sym, ◌∙◌, ap, arith, append_assoc, length-append, le-leb, append-nil}
use Rattle.std.specs.Prelude.{nat_lt, nat_le, ◌&&◌, ◌==◌, option_map, slice_get, is_some}
use Rattle.std.specs.List.{last_or, range_with_len}
use Rattle.std.proofs.lemmas.Bool.{and_parts, and_from}
use Rattle.std.proofs.lemmas.List.FromFn.{length-range_with_len}
use Rattle.col_common.specs.Ascending.{is_never_falling, is_rising}
use Rattle.col_common.proofs.OrderingLemmas.{lt-next}
use Rattle.col_model.proofs.ListLaws.{range-more}
use Rattle.col_writer_rows.specs.Documents.{dense_then, is_late_doc, all_from}

-- the last item of two lists, one behind the other
pub last_or-append : {A : Type 0} (o : Option A) (xs ys : List A) → last_or o (xs ++ ys) ≡ last_or (last_or o xs) ys
last_or-append o [] ys = refl
last_or-append o (x ∷ xs) ys = last_or-append (Some x) xs ys

-- the item at the last place
at_end : {A : Type 0} (x : A) (xs : List A) → slice_get (x ∷ xs) (length xs) ≡ last_or (Some x) xs
at_end x [] = refl
at_end x (y ∷ ys) = at_end y ys

some_last : {A : Type 0} (x : A) (xs : List A) → is_some (last_or (Some x) xs) ≡ true
some_last x [] = refl
some_last x (y ∷ ys) = some_last y ys

at_place : {A : Type 0} (x : A) (xs : List A) → slice_get (x ∷ xs) (length (x ∷ xs) - 1) ≡ last_or (Some x) xs
at_place x xs = let k : length (x ∷ xs) - 1 ≡ length xs = omega arith in ap (slice_get (x ∷ xs)) k ∙ at_end x xs

-- what is found at the last place is the last item
pub last_or-found : {A : Type 0} (o : Option A) (xs : List A) (x : A) → slice_get xs (length xs - 1) ≡ Some x → last_or o xs ≡ Some x
last_or-found o [] x e = cc
last_or-found o (y ∷ ys) x e = sym (at_place y ys) ∙ e

-- where nothing is found there, the list is empty
pub empty-found : {A : Type 0} (xs : List A) → slice_get xs (length xs - 1) ≡ None → xs ≡ []
empty-found [] e = refl
empty-found (y ∷ ys) e =
    let none : last_or (Some y) ys ≡ None = sym (at_place y ys) ∙ e in
    let no : false ≡ true = ap is_some (sym none) ∙ some_last y ys in cc

-- where others follow the dense documents, d is late where it is below the last of these
pub late-found : (n : ℕ) (others docs : List ℕ) (last d : ℕ) → dense_then n others ≡ docs
    → slice_get others (length others - 1) ≡ Some last → nat_lt d last ≡ is_late_doc docs d
unfolding dense_then is_late_doc
late-found n others docs last d is e =
    let at : last_or None docs ≡ Some last = ap (last_or None) (sym is)
    ∙ last_or-append None (range_with_len 0 n) others ∙ last_or-found _ others last e in
    sym (ap (λ o. unwrap_or (option_map (λ l. nat_lt d l) o) false) at)

-- with dense documents alone, d is late where it is below the last of them
pub late-dense : (n : ℕ) (others docs : List ℕ) (d : ℕ) → dense_then n others ≡ docs
    → slice_get others (length others - 1) ≡ None → 0 < n → nat_lt d (n - 1) ≡ is_late_doc docs d
unfolding dense_then is_late_doc
late-dense zero others docs d is e h = absurd (omega arith)
late-dense (suc n) others docs d is e h =
    let one : suc n ≡ n + 1 = omega arith in
    let less : suc n - 1 ≡ n = omega arith in
    let alone : docs ≡ range_with_len 0 n ++ (0 + n) ∷ [] =
    sym is ∙ ap (λ r. range_with_len 0 (suc n) ++ r) (empty-found others e) ∙ append-nil _
    ∙ ap (range_with_len 0) one ∙ range-more 0 n in
    let at : last_or None docs ≡ Some (0 + n) = ap (last_or None) alone ∙ last_or-append None (range_with_len 0 n) ((0 + n) ∷ []) in
    let z : 0 + n ≡ n = omega arith in
    ap (nat_lt d) less ∙ sym (ap (λ o. unwrap_or (option_map (λ l. nat_lt d l) o) false) (at ∙ ap Some z))

-- without documents no document is late
pub late-none : (n : ℕ) (others docs : List ℕ) (d : ℕ) → dense_then n others ≡ docs
    → slice_get others (length others - 1) ≡ None → n ≡ 0 → false ≡ is_late_doc docs d
unfolding dense_then is_late_doc
late-none n others docs d is e h =
    let alone : docs ≡ [] = sym is ∙ ap (λ r. range_with_len 0 n ++ r) (empty-found others e) ∙ append-nil _ ∙ ap (range_with_len 0) h in
    sym (ap (λ o. unwrap_or (option_map (λ l. nat_lt d l) (last_or None o)) false) alone)

-- no dense documents and no others are none
pub dense_then-none : dense_then 0 [] ≡ []
unfolding dense_then
dense_then-none = refl

-- the next number behind the dense documents makes one dense document more
pub dense_then-next : (n : ℕ) (others docs : List ℕ) (d : ℕ) → dense_then n others ≡ docs → others ≡ [] → d ≡ n
    → dense_then (n + 1) others ≡ docs ++ d ∷ []
unfolding dense_then
dense_then-next n others docs d is none e =
    let z : 0 + n ≡ d = omega arith in
    ap (λ r. range_with_len 0 (n + 1) ++ r) none ∙ append-nil _ ∙ range-more 0 n ∙ ap (λ k. range_with_len 0 n ++ k ∷ []) z
    ∙ ap (λ r. r ++ d ∷ []) (sym (append-nil (range_with_len 0 n)) ∙ ap (λ r. range_with_len 0 n ++ r) (sym none) ∙ is)

-- any document put behind the others stands at the end of all
pub dense_then-push : (n : ℕ) (others docs : List ℕ) (d : ℕ) → dense_then n others ≡ docs → dense_then n (others ++ d ∷ []) ≡ docs ++ d ∷ []
unfolding dense_then
dense_then-push n others docs d is = sym (append_assoc (range_with_len 0 n) others (d ∷ [])) ∙ ap (λ r. r ++ d ∷ []) is

-- there are as many documents as dense ones and others
pub length-dense_then : (n : ℕ) (others : List ℕ) → length (dense_then n others) ≡ n + length others
unfolding dense_then
length-dense_then n others = length-append (range_with_len 0 n) others ∙ ap (λ k. k + length others) (length-range_with_len 0 n)

not_below : (d x : ℕ) → nat_lt d x ≡ false → nat_le x d ≡ true
not_below d x e = grind arith

-- documents still never fall with one that isn't before the last
pub never_falling-push : (docs : List ℕ) (d : ℕ) → is_never_falling docs ≡ true → is_late_doc docs d ≡ false
    → is_never_falling (docs ++ d ∷ []) ≡ true
unfolding is_late_doc
never_falling-push [] d h e = refl
never_falling-push (x ∷ []) d h e = and_from (nat_le x d) true (not_below d x e) refl
never_falling-push (x ∷ y ∷ zs) d h e =
    let parts = and_parts (nat_le x y) (is_never_falling (y ∷ zs)) h in
    and_from (nat_le x y) (is_never_falling (y ∷ zs ++ d ∷ [])) parts.0 (never_falling-push (y ∷ zs) d parts.1 e)

-- what the test for the next document tells
pub next-parts : (d n : ℕ) (others : List ℕ) (b : Bool) → b ≡ ((d == n) && (length others == 0)) → b ≡ true → (d ≡ n) × (others ≡ [])
next-parts d n [] b is e = (grind arith, refl)
next-parts d n (x ∷ xs) b is e = absurd (grind arith)

-- the first documents and the others are all
pub all-docs : (n d : ℕ) (all others docs : List ℕ) → all ≡ range_with_len 0 d → d ≡ n → dense_then n others ≡ docs → all ++ others ≡ docs
unfolding dense_then
all-docs n d all others docs e same is = ap (λ r. r ++ others) (e ∙ ap (range_with_len 0) same) ∙ is

-- the documents below d with d behind them are those below d + 1
pub one-doc : (d : ℕ) (all more : List ℕ) → all ≡ range_with_len 0 d → more ≡ all ++ d ∷ [] → more ≡ range_with_len 0 (d + 1)
one-doc d all more e f = let z : d ≡ 0 + d = omega arith in f ∙ (λ i. e i ++ z i ∷ []) ∙ sym (range-more 0 d)

-- ---- documents of which none are the same

rises-from : (x : ℕ) (xs : List ℕ) → is_rising (x ∷ xs) ≡ all_from (x + 1) xs
unfolding all_from
rises-from x [] = refl
rises-from x (y ∷ ys) = λ i. lt-next x y i && rises-from y ys i

dense-from : (a n : ℕ) (ys : List ℕ) → all_from a (range_with_len a n ++ ys) ≡ all_from (a + n) ys
unfolding all_from
dense-from a zero ys = let e : a ≡ a + 0 = omega arith in ap (λ k. all_from k ys) e
dense-from a (suc n) ys =
    let here : a ≤ a = omega arith in
    let place : (a + 1) + n ≡ a + suc n = omega arith in
    ap (λ b. b && all_from (a + 1) (range_with_len (a + 1) n ++ ys)) (le-leb _ _ here) ∙ dense-from (a + 1) n ys
    ∙ ap (λ k. all_from k ys) place

from-zero : (xs : List ℕ) → is_rising xs ≡ all_from 0 xs
unfolding all_from
from-zero [] = refl
from-zero (x ∷ xs) = let low : 0 ≤ x = omega arith in rises-from x xs ∙ sym (ap (λ b. b && all_from (x + 1) xs) (le-leb _ _ low))

-- documents rise where the others behind n dense ones rise from n on
pub rising-dense : (n : ℕ) (others docs : List ℕ) → dense_then n others ≡ docs → is_rising docs ≡ all_from n others
unfolding dense_then
rising-dense n others docs is =
    let z : 0 + n ≡ n = omega arith in
    ap is_rising (sym is) ∙ from-zero (range_with_len 0 n ++ others) ∙ dense-from 0 n others ∙ ap (λ k. all_from k others) z

pub from-none : (least : ℕ) → all_from least [] ≡ true
unfolding all_from
from-none least = refl

pub from-next : (least d : ℕ) (docs : List ℕ) → least ≤ d → all_from least (d ∷ docs) ≡ all_from (d + 1) docs
unfolding all_from
from-next least d docs h = ap (λ b. b && all_from (d + 1) docs) (le-leb _ _ h)

pub from-below : (least d : ℕ) (docs : List ℕ) → d < least → all_from least (d ∷ docs) ≡ false
unfolding all_from
from-below least d docs h = let b : nat_le least d ≡ false = grind arith in ap (λ t. t && all_from (d + 1) docs) b

front-of : (docs : List ℕ) (i : ℕ) → i < length docs → drop i docs ≡ get_or docs i 0 ∷ drop (i + 1) docs
front-of [] i h = absurd (omega arith)
front-of (d ∷ docs) zero h = refl
front-of (d ∷ docs) (suc i) h =
    let more : suc i + 1 ≡ suc (i + 1) = omega arith in
    front-of docs i (omega arith) ∙ ap (λ k. get_or docs i 0 ∷ drop k (d ∷ docs)) (sym more)

none-left : (docs : List ℕ) (i : ℕ) → length docs ≤ i → drop i docs ≡ []
none-left [] zero h = refl
none-left [] (suc i) h = refl
none-left (d ∷ docs) zero h = absurd (omega arith)
none-left (d ∷ docs) (suc i) h = none-left docs i (omega arith)

-- a document below the least that may come says that the documents don't rise
pub step-below : (least at i v : ℕ) (docs : List ℕ) → all_from least docs ≡ all_from at (drop i docs)
    → i < length docs → v ≡ get_or docs i 0 → v < at → false ≡ all_from least docs
step-below least at i v docs e h is low =
    sym
    (e ∙ ap (all_from at) (front-of docs i h) ∙ from-below at (get_or docs i 0) (drop (i + 1) docs) (omega arith))

-- a document that may come leaves those behind it, from the next number on
pub step-next : (least at i v : ℕ) (docs : List ℕ) → all_from least docs ≡ all_from at (drop i docs)
    → i < length docs → v ≡ get_or docs i 0 → at ≤ v → all_from least docs ≡ all_from (v + 1) (drop (i + 1) docs)
step-next least at i v docs e h is up =
    e ∙ ap (all_from at) (front-of docs i h) ∙ from-next at (get_or docs i 0) (drop (i + 1) docs) (omega arith)
    ∙ ap (λ k. all_from (k + 1) (drop (i + 1) docs)) (sym is)

-- where no document is left, the documents rise
pub step-end : (least at i : ℕ) (docs : List ℕ) → all_from least docs ≡ all_from at (drop i docs) → length docs ≤ i
    → true ≡ all_from least docs
step-end least at i docs e h = sym (e ∙ ap (all_from at) (none-left docs i h) ∙ from-none at)
