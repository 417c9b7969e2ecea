-- Start offsets that may repeat, and how an index stores them.
use Rattle.std.proofs.Common.{◌≡◌, ℕ, zero, suc, ◌+◌, ◌-◌, ◌<◌, ◌≤◌, ◌^◌, ◌==◌, Bool, true, false, cond, List, [], ◌∷◌, ◌++◌, length, map, drop, get_or, slice_get, Some, refl, sym, ap, subst, ◌∙◌, arith}
use Rattle.std.specs.List.{AllByRecursion, sum}
use Rattle.std.proofs.lemmas.Bool.{ne_eqb, eq-eqb, eqb-true}
use Rattle.std.proofs.lemmas.List.{drop_more, drop_all, append_assoc, append-nil}
use Rattle.std.proofs.lemmas.List.Sums.{sum_by-cons}
use Rattle.std.proofs.lemmas.Option.{get_or_from_slice_get, slice_get_within}
use Rattle.col_model.specs.Positions.{starts_of}
use Rattle.col_index.specs.Offsets.{changes_behind, without_repeats}
use Rattle.col_indexer.specs.Counted.{ends_behind}
use Rattle.col_indexer.proofs.CollectedLemmas.{ends-front}
use Rattle.col_indexer.proofs.CountedLemmas.{starts_of-ends, ends_behind-none, ends_behind-some}

-- ---- one item after another

-- what is left is the next item and what stands behind it
pub next-item : (k x : ℕ) (xs : List ℕ) → slice_get xs k ≡ Some x → drop k xs ≡ x ∷ drop (k + 1) xs
next-item k x xs read =
    drop_more xs k 0 (slice_get_within xs k x read) ∙ ap (λ y. y ∷ drop (k + 1) xs) (get_or_from_slice_get xs k x 0 read)

-- an item that equals the one before it is dropped
pub changes-same : (k x last : ℕ) (xs : List ℕ) → slice_get xs k ≡ Some x → x ≡ last
    → changes_behind last (drop k xs) ≡ changes_behind last (drop (k + 1) xs)
changes-same k x last xs read e =
    let later = changes_behind x (drop (k + 1) xs) in
    ap (changes_behind last) (next-item k x xs read)
    ∙ ap (λ b. cond b later (x ∷ later)) (eq-eqb x last e)
    ∙ ap (λ y. changes_behind y (drop (k + 1) xs)) e

-- an item that doesn't is appended, so far behind
pub changes-appended : (b k x y last : ℕ) (xs items new : List ℕ) → y ≡ b + x → new ≡ items ++ y ∷ []
    → slice_get xs k ≡ Some x → (x ≡ last → ⊥)
    → new ++ map (λ z. b + z) (changes_behind x (drop (k + 1) xs)) ≡ items ++ map (λ z. b + z) (changes_behind last (drop k xs))
changes-appended b k x y last xs items new e f read differ =
    let later = changes_behind x (drop (k + 1) xs) in
    let rest = map (λ z. b + z) later in
    let split : changes_behind last (drop k xs) ≡ x ∷ later =
    ap (changes_behind last) (next-item k x xs read) ∙ ap (λ t. cond t later (x ∷ later)) (ne_eqb x last differ) in
    ap (λ all. all ++ rest) f
    ∙ append_assoc items (y ∷ []) rest
    ∙ ap (λ n. items ++ n ∷ rest) e
    ∙ ap (λ left. items ++ map (λ z. b + z) left) (sym split)

-- none is left
pub changes-all : (b k last : ℕ) (xs items : List ℕ) → length xs ≤ k
    → items ≡ items ++ map (λ z. b + z) (changes_behind last (drop k xs))
changes-all b k last xs items h =
    sym (ap (λ left. items ++ map (λ z. b + z) (changes_behind last left)) (drop_all k xs h) ∙ append-nil items)

-- ---- the offsets of an index, by the starts of its counts

-- the first is 0, and changes behind it are the ends
parts : (cs : List ℕ) (x : ℕ) (xs : List ℕ) → without_repeats (x ∷ xs) ≡ starts_of cs → (x ≡ 0) × (changes_behind x xs ≡ ends_behind 0 cs)
parts cs x xs e =
    let same : x ∷ changes_behind x xs ≡ 0 ∷ ends_behind 0 cs = e ∙ starts_of-ends cs in
    (ap (λ ys. get_or ys 0 0) same, ap (drop 1) same)

-- there is at least one
pub some-stored : (cs starts : List ℕ) → without_repeats starts ≡ starts_of cs → 0 < length starts
some-stored cs [] e = let none : [] ≡ 0 ∷ ends_behind 0 cs = e ∙ starts_of-ends cs in absurd (cc)
some-stored cs (x ∷ xs) e = omega arith

-- the changes behind 0 are the ends
later-changes : (cs starts : List ℕ) → without_repeats starts ≡ starts_of cs → changes_behind 0 starts ≡ ends_behind 0 cs
later-changes cs [] e = absurd (omega (arith, some-stored cs [] e))
later-changes cs (x ∷ xs) e =
    let both = parts cs x xs e in
    ap (λ b. cond b (changes_behind x xs) (x ∷ changes_behind x xs)) (eq-eqb x 0 both.0) ∙ both.1

-- the same behind so many values
pub stored-ends : (b : ℕ) (cs starts : List ℕ) → without_repeats starts ≡ starts_of cs
    → map (λ start. b + start) (changes_behind 0 starts) ≡ ends_behind b cs
stored-ends b cs starts e =
    ap (map (λ start. b + start)) (later-changes cs starts e)
    ∙ sym (ap (λ ss. drop 1 (map (λ start. b + start) ss)) (starts_of-ends cs))
    ∙ ends-front b cs

-- ends are at most the number of values
ends-few : (n b : ℕ) (cs : List ℕ) → n + (b + sum cs) < 2 ^ 32 → AllByRecursion (λ end. n + end < 2 ^ 32) (ends_behind b cs)
unfolding ends_behind
ends-few n b [] h = tt
ends-few n b (zero ∷ cs) h =
    subst (AllByRecursion (λ end. n + end < 2 ^ 32)) (sym (ends_behind-none b cs))
    (ends-few n b cs (omega (arith, sum_by-cons (λ x. x) 0 cs)))
ends-few n b (suc c ∷ cs) h =
    subst (AllByRecursion (λ end. n + end < 2 ^ 32)) (sym (ends_behind-some b c cs))
    (omega (arith, sum_by-cons (λ x. x) (suc c) cs), ends-few n (b + suc c) cs (omega (arith, sum_by-cons (λ x. x) (suc c) cs)))

-- where changes are few, all items are
all-few : (n last : ℕ) (xs : List ℕ) → n + last < 2 ^ 32 → AllByRecursion (λ x. n + x < 2 ^ 32) (changes_behind last xs)
    → AllByRecursion (λ x. n + x < 2 ^ 32) xs
all-few n last [] h a = tt
all-few n last (x ∷ xs) h a = go (x == last) refl (all-few n x xs) a
  where
    go : (b : Bool) → (x == last) ≡ b
        → (n + x < 2 ^ 32 → AllByRecursion (λ y. n + y < 2 ^ 32) (changes_behind x xs) → AllByRecursion (λ y. n + y < 2 ^ 32) xs)
        → AllByRecursion (λ y. n + y < 2 ^ 32) (cond b (changes_behind x xs) (x ∷ changes_behind x xs))
        → AllByRecursion (λ y. n + y < 2 ^ 32) (x ∷ xs)
    go true e more rest =
        let same = eqb-true x last e in
        let here : n + x < 2 ^ 32 = omega arith in
        (here, more here rest)
    go false e more both = (both.0, more both.0 both.1)

-- offsets of an index behind so many values fit where all its values do
pub stored-few : (n : ℕ) (cs starts : List ℕ) → without_repeats starts ≡ starts_of cs → n + sum cs < 2 ^ 32
    → AllByRecursion (λ start. n + start < 2 ^ 32) starts
stored-few n cs starts e h =
    all-few n 0 starts (omega arith)
    (subst (AllByRecursion (λ start. n + start < 2 ^ 32)) (sym (later-changes cs starts e)) (ends-few n 0 cs (omega arith)))

-- ---- the last offset

-- the last of a number and those behind it
abbrev last_of : ℕ → List ℕ → ℕ
last_of x [] = x
last_of x (y ∷ ys) = last_of y ys

-- it stands at the end
last-at : (x : ℕ) (xs : List ℕ) → get_or (x ∷ xs) (length xs) 0 ≡ last_of x xs
last-at x [] = refl
last-at x (y ∷ ys) = last-at y ys

-- it is the last change
last-change : (x : ℕ) (xs : List ℕ) → last_of x (changes_behind x xs) ≡ last_of x xs
last-change x [] = refl
last-change x (y ∷ ys) = go (y == x) refl (last-change y ys)
  where
    go : (b : Bool) → (y == x) ≡ b → last_of y (changes_behind y ys) ≡ last_of y ys
        → last_of x (cond b (changes_behind y ys) (y ∷ changes_behind y ys)) ≡ last_of y ys
    go true e same = ap (λ n. last_of n (changes_behind y ys)) (sym (eqb-true y x e)) ∙ same
    go false e same = same

-- the last end is where all values end
last-end : (b : ℕ) (cs : List ℕ) → last_of b (ends_behind b cs) ≡ b + sum cs
unfolding ends_behind
last-end b [] = omega arith
last-end b (zero ∷ cs) = ap (last_of b) (ends_behind-none b cs) ∙ last-end b cs ∙ omega (arith, sum_by-cons (λ x. x) 0 cs)
last-end b (suc c ∷ cs) =
    ap (last_of b) (ends_behind-some b c cs) ∙ last-end (b + suc c) cs ∙ omega (arith, sum_by-cons (λ x. x) (suc c) cs)

-- the last offset of an index is the number of its values
pub last-stored : (cs starts : List ℕ) (count last : ℕ) → without_repeats starts ≡ starts_of cs → count ≡ length starts
    → slice_get starts (count - 1) ≡ Some last → last ≡ sum cs
last-stored cs [] count last e f g = absurd (omega (arith, some-stored cs [] e))
last-stored cs (x ∷ xs) count last e f g =
    let both = parts cs x xs e in
    let end : count - 1 ≡ length xs = omega arith in
    sym (get_or_from_slice_get (x ∷ xs) (count - 1) last 0 g)
    ∙ ap (λ n. get_or (x ∷ xs) n 0) end
    ∙ last-at x xs
    ∙ sym (last-change x xs)
    ∙ ap (last_of x) both.1
    ∙ ap (λ n. last_of n (ends_behind 0 cs)) both.0
    ∙ last-end 0 cs
    ∙ omega arith
