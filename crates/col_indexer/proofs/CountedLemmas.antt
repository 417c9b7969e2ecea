-- Rows with a value and ends of values, of rows behind others.
use Rattle.std.proofs.Common.{◌≡◌, ℕ, zero, suc, ◌+◌, ◌<◌, ◌≤◌, ◌==◌, not, Bool, true, false, cond, List, [], ◌∷◌, ◌++◌, length, map, count_by, slice_get, Some, refl, sym, ap, ◌∙◌, arith}
use Rattle.std.proofs.lemmas.Bool.{ne_eqb}
use Rattle.std.proofs.lemmas.List.Sums.{sum_by-cons}
use Rattle.col_model.specs.Positions.{rows_with_value, starts_after, starts_of}
use Rattle.col_indexer.specs.Counted.{rows_behind, ends_behind}
use Rattle.col_index.proofs.RowsLaws.{rows_from, rows_with_value-from}

-- ---- rows with a value

one-more : (b : Bool) (a : ℕ) (rows : List ℕ) → length (cond b (a ∷ rows) rows) ≡ cond b 1 0 + length rows
one-more true a rows = omega arith
one-more false a rows = omega arith

count-from : (a : ℕ) (cs : List ℕ) → length (rows_from a cs) ≡ count_by (λ c. not (c == 0)) cs
count-from a [] = refl
count-from a (c ∷ cs) =
    one-more (not (c == 0)) a (rows_from (suc a) cs)
    ∙ ap (λ n. cond (not (c == 0)) 1 0 + n) (count-from (suc a) cs)
    ∙ sym (sum_by-cons (λ d. cond (not (d == 0)) 1 0) c cs)

-- how many rows have a value
pub count-rows : (cs : List ℕ) → length (rows_with_value cs) ≡ count_by (λ c. not (c == 0)) cs
count-rows cs = ap length (rows_with_value-from cs) ∙ count-from 0 cs

-- a row with a value is the first
pub rows_from-some : (a c : ℕ) (cs : List ℕ) → rows_from a (suc c ∷ cs) ≡ a ∷ rows_from (suc a) cs
rows_from-some a c cs = ap (λ test. cond (not test) (a ∷ rows_from (suc a) cs) (rows_from (suc a) cs)) (ne_eqb (suc c) 0 (λ e. omega arith))

-- rows from a later row on
rows_moved : (b a m : ℕ) (cs : List ℕ) → m ≡ b + a → map (λ row. b + row) (rows_from a cs) ≡ rows_from m cs
rows_moved b a m [] e = refl
rows_moved b a m (zero ∷ cs) e = rows_moved b (suc a) (suc m) cs (omega arith)
rows_moved b a m (suc c ∷ cs) e =
    ap (λ rows. map (λ row. b + row) rows) (rows_from-some a c cs)
    ∙ ap (λ n. n ∷ map (λ row. b + row) (rows_from (suc a) cs)) (sym e)
    ∙ ap (λ more. m ∷ more) (rows_moved b (suc a) (suc m) cs (omega arith))
    ∙ sym (rows_from-some m c cs)

-- rows behind others are counted from there on
pub rows_behind-from : (b : ℕ) (cs : List ℕ) → rows_behind b cs ≡ rows_from b cs
rows_behind-from b cs = ap (λ rows. map (λ row. b + row) rows) (rows_with_value-from cs) ∙ rows_moved b 0 b cs (omega arith)

-- a row without a value counts, and is not among them
pub rows_behind-none : (b : ℕ) (cs : List ℕ) → rows_behind b (0 ∷ cs) ≡ rows_behind (b + 1) cs
rows_behind-none b cs = rows_behind-from b (0 ∷ cs) ∙ ap (λ n. rows_from n cs) (omega arith) ∙ sym (rows_behind-from (b + 1) cs)

-- a row with a value is the first
pub rows_behind-some : (b c : ℕ) (cs : List ℕ) → rows_behind b (suc c ∷ cs) ≡ b ∷ rows_behind (b + 1) cs
rows_behind-some b c cs =
    rows_behind-from b (suc c ∷ cs)
    ∙ rows_from-some b c cs
    ∙ ap (λ more. b ∷ more) (ap (λ n. rows_from n cs) (omega arith) ∙ sym (rows_behind-from (b + 1) cs))

-- rows from one row on, of two lists
rows_from-append : (b m : ℕ) (xs ys : List ℕ) → m ≡ b + length xs → rows_from b (xs ++ ys) ≡ rows_from b xs ++ rows_from m ys
rows_from-append b m [] ys e = ap (λ n. rows_from n ys) (omega arith)
rows_from-append b m (zero ∷ xs) ys e = rows_from-append (suc b) m xs ys (omega arith)
rows_from-append b m (suc x ∷ xs) ys e =
    rows_from-some b x (xs ++ ys)
    ∙ ap (λ more. b ∷ more) (rows_from-append (suc b) m xs ys (omega arith))
    ∙ ap (λ front. front ++ rows_from m ys) (sym (rows_from-some b x xs))

-- what stands behind other rows is counted from their end on
pub rows_behind-append : (b m : ℕ) (xs ys : List ℕ) → m ≡ b + length xs → rows_behind b (xs ++ ys) ≡ rows_behind b xs ++ rows_behind m ys
rows_behind-append b m xs ys e =
    rows_behind-from b (xs ++ ys)
    ∙ rows_from-append b m xs ys e
    ∙ ap (λ front. front ++ rows_from m ys) (sym (rows_behind-from b xs))
    ∙ ap (λ more. rows_behind b xs ++ more) (sym (rows_behind-from m ys))

-- no more rows have a value than there are, from a row on
length-rows_from : (b : ℕ) (cs : List ℕ) → length (rows_from b cs) ≤ length cs
length-rows_from b [] = omega arith
length-rows_from b (zero ∷ cs) = omega (arith, length-rows_from (suc b) cs)
length-rows_from b (suc c ∷ cs) = omega (arith, length-rows_from (suc b) cs, ap length (rows_from-some b c cs))

-- no more rows have a value than there are
pub length-rows_with_value : (cs : List ℕ) → length (rows_with_value cs) ≤ length cs
length-rows_with_value cs = omega (arith, ap length (rows_with_value-from cs), length-rows_from 0 cs)

-- a row with a value, from a row on, is one of them
row-below_from : (b : ℕ) (cs : List ℕ) (k row : ℕ) → slice_get (rows_from b cs) k ≡ Some row → row < b + length cs
row-below_from b [] k row e = absurd (cc)
row-below_from b (zero ∷ cs) k row e = omega (arith, row-below_from (suc b) cs k row e)
row-below_from b (suc c ∷ cs) zero row e =
    let here : Some b ≡ Some row = sym (ap (λ rows. slice_get rows 0) (rows_from-some b c cs)) ∙ e in
    let same : b ≡ row = cc in
    omega arith
row-below_from b (suc c ∷ cs) (suc k) row e =
    omega (arith, row-below_from (suc b) cs k row (sym (ap (λ rows. slice_get rows (suc k)) (rows_from-some b c cs)) ∙ e))

-- a row with a value is one of them
pub row-below : (cs : List ℕ) (k row : ℕ) → slice_get (rows_with_value cs) k ≡ Some row → row < length cs
row-below cs k row e = omega (arith, row-below_from 0 cs k row (sym (ap (λ rows. slice_get rows k) (rows_with_value-from cs)) ∙ e))

-- ---- starts and ends of values

-- a row with a value has a start
pub starts_after-some : (b c : ℕ) (cs : List ℕ) → starts_after b (suc c ∷ cs) ≡ b ∷ starts_after (b + suc c) cs
starts_after-some b c cs =
    ap (λ test. cond test (starts_after (b + suc c) cs) (b ∷ starts_after (b + suc c) cs))
    (ne_eqb (suc c) 0 (λ e. omega arith))

-- a row without a value has no end
pub ends_behind-none : (b : ℕ) (cs : List ℕ) → ends_behind b (0 ∷ cs) ≡ ends_behind b cs
unfolding ends_behind
ends_behind-none b cs = ap (λ n. ends_behind n cs) (omega arith)

-- a row with a value has an end
pub ends_behind-some : (b c : ℕ) (cs : List ℕ) → ends_behind b (suc c ∷ cs) ≡ (b + suc c) ∷ ends_behind (b + suc c) cs
unfolding ends_behind
ends_behind-some b c cs =
    ap (λ test. cond test (ends_behind (b + suc c) cs) ((b + suc c) ∷ ends_behind (b + suc c) cs))
    (ne_eqb (suc c) 0 (λ e. omega arith))

-- starts are the first and the ends
pub starts_after-ends : (b : ℕ) (cs : List ℕ) → starts_after b cs ≡ b ∷ ends_behind b cs
unfolding ends_behind
starts_after-ends b [] = refl
starts_after-ends b (zero ∷ cs) = starts_after-ends (b + 0) cs ∙ ap (λ n. n ∷ ends_behind (b + 0) cs) (omega arith)
starts_after-ends b (suc c ∷ cs) =
    starts_after-some b c cs
    ∙ ap (λ more. b ∷ more) (starts_after-ends (b + suc c) cs)
    ∙ ap (λ more. b ∷ more) (sym (ends_behind-some b c cs))

-- values start at 0 and where those before them end
pub starts_of-ends : (cs : List ℕ) → starts_of cs ≡ 0 ∷ ends_behind 0 cs
unfolding starts_of
starts_of-ends cs = starts_after-ends 0 cs
