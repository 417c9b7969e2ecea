-- Where the values of rows start, of rows behind others.
use Rattle.std.proofs.Common.{◌≡◌, ℕ, zero, suc, ◌+◌, ◌≤◌, List, [], ◌∷◌, ◌++◌, length, map, drop, get_or, slice_get, Some, None, Option, refl, sym, ap, ◌∙◌, arith}
use Rattle.std.specs.List.{sum}
use Rattle.std.proofs.lemmas.List.Sums.{sum_by-cons}
use Rattle.std.proofs.lemmas.Option.{get_or_from_slice_get}
use Rattle.col_common.specs.Walks.{IsNext}
use Rattle.col_model.specs.Positions.{rows_with_value, starts_after, starts_of}
use Rattle.col_index.proofs.RowsLaws.{rows_from, rows_with_value-from}
use Rattle.col_indexer.proofs.CountedLemmas.{rows_from-some, starts_after-some}

-- one start more than rows with a value, behind so many values
length-starts_after : (b a : ℕ) (cs : List ℕ) → length (starts_after b cs) ≡ suc (length (rows_from a cs))
length-starts_after b a [] = refl
length-starts_after b a (zero ∷ cs) = length-starts_after (b + 0) (suc a) cs
length-starts_after b a (suc c ∷ cs) =
    ap length (starts_after-some b c cs)
    ∙ ap suc (length-starts_after (b + suc c) (suc a) cs)
    ∙ ap (λ rows. suc (length rows)) (sym (rows_from-some a c cs))

-- one start more than rows with a value
pub length-starts : (cs : List ℕ) → length (starts_of cs) ≡ suc (length (rows_with_value cs))
unfolding starts_of
length-starts cs = length-starts_after 0 0 cs ∙ ap (λ rows. suc (length rows)) (sym (rows_with_value-from cs))

-- no value starts behind them all, behind so many values
starts_after-le : (b : ℕ) (cs : List ℕ) (k : ℕ) → get_or (starts_after b cs) k 0 ≤ b + sum cs
starts_after-le b [] zero = omega arith
starts_after-le b [] (suc k) = omega arith
starts_after-le b (zero ∷ cs) k = omega (arith, starts_after-le (b + 0) cs k, sum_by-cons (λ x. x) 0 cs)
starts_after-le b (suc c ∷ cs) zero = omega (arith, ap (λ xs. get_or xs 0 0) (starts_after-some b c cs))
starts_after-le b (suc c ∷ cs) (suc k) =
    omega (
      arith,
      ap (λ xs. get_or xs (suc k) 0) (starts_after-some b c cs),
      starts_after-le (b + suc c) cs k,
      sum_by-cons (λ x. x) (suc c) cs,
    )

-- no value starts behind them all
pub starts-le : (cs : List ℕ) (k x : ℕ) → slice_get (starts_of cs) k ≡ Some x → x ≤ sum cs
unfolding starts_of
starts-le cs k x e = omega (arith, get_or_from_slice_get (starts_of cs) k x 0 e, starts_after-le 0 cs k)

-- behind more values each starts so much further
pub starts_after-moved : (b a m : ℕ) (cs : List ℕ) → m ≡ b + a → starts_after m cs ≡ map (λ start. b + start) (starts_after a cs)
starts_after-moved b a m [] e = ap (λ n. n ∷ []) e
starts_after-moved b a m (zero ∷ cs) e = starts_after-moved b (a + 0) (m + 0) cs (omega arith)
starts_after-moved b a m (suc c ∷ cs) e =
    starts_after-some m c cs
    ∙ ap (λ n. n ∷ starts_after (m + suc c) cs) e
    ∙ ap (λ more. (b + a) ∷ more) (starts_after-moved b (a + suc c) (m + suc c) cs (omega arith))
    ∙ ap (λ starts. map (λ start. b + start) starts) (sym (starts_after-some a c cs))

-- the first is the number of values before
pub starts_after-first : (b : ℕ) (cs : List ℕ) → starts_after b cs ≡ b ∷ drop 1 (starts_after b cs)
starts_after-first b [] = refl
starts_after-first b (zero ∷ cs) = starts_after-first (b + 0) cs ∙ ap (λ n. n ∷ drop 1 (starts_after (b + 0) cs)) (omega arith)
starts_after-first b (suc c ∷ cs) = starts_after-some b c cs ∙ ap (λ xs. b ∷ drop 1 xs) (sym (starts_after-some b c cs))

-- what stands behind other rows starts where these end
pub starts_after-append : (b m : ℕ) (xs ys : List ℕ) → m ≡ b + sum xs
    → starts_after b (xs ++ ys) ≡ starts_after b xs ++ drop 1 (starts_after m ys)
starts_after-append b m [] ys e =
    starts_after-first b ys ∙ ap (λ n. b ∷ drop 1 (starts_after n ys)) (omega arith)
starts_after-append b m (zero ∷ xs) ys e = starts_after-append (b + 0) m xs ys (omega (arith, sum_by-cons (λ x. x) 0 xs))
starts_after-append b m (suc x ∷ xs) ys e =
    starts_after-some b x (xs ++ ys)
    ∙ ap (λ more. b ∷ more) (starts_after-append (b + suc x) m xs ys (omega (arith, sum_by-cons (λ y. y) (suc x) xs)))
    ∙ ap (λ front. front ++ drop 1 (starts_after m ys)) (sym (starts_after-some b x xs))

-- ---- the next of a list

-- the first of what is left is the item at that place
slice_get-drop : {X : Type 0} (xs : List X) (k : ℕ) → slice_get (drop k xs) 0 ≡ slice_get xs k
slice_get-drop xs zero = refl
slice_get-drop [] (suc k) = refl
slice_get-drop (x ∷ xs) (suc k) = slice_get-drop xs k

-- what a walk of a list gives is the item at its place
pub next-is : (xs : List ℕ) (k : ℕ) (next : Option ℕ) (after : List ℕ) → IsNext (drop k xs) next after → next ≡ slice_get xs k
next-is xs k None after h = sym (ap (λ ys. slice_get ys 0) h.0) ∙ slice_get-drop xs k
next-is xs k (Some x) after h = sym (ap (λ ys. slice_get ys 0) h) ∙ slice_get-drop xs k
