-- Counts of rows by documents, of which the last one's row is the last with values.
use Rattle.std.proofs.Common.{◌≡◌, ◌<◌, ◌≤◌, ℕ, zero, suc, ◌+◌, ◌-◌, List, [], ◌∷◌, ◌++◌, sum, get_or, true, false, cond, refl, sym, ◌∙◌, ap, arith, append-nil}
use Rattle.std.specs.Prelude.{nat_lt, ◌==◌, count_by}
use Rattle.std.proofs.lemmas.Bool.{and_parts, and_from}
use Rattle.std.proofs.lemmas.List.{append_cancel_left}
use Rattle.std.proofs.lemmas.List.Sums.{sum_by-cons}
use Rattle.std.proofs.lemmas.List.FromFn.{map-range_with_len_more}
use Rattle.col_common.specs.Ascending.{are_below}
use Rattle.col_model.specs.Positions.{rows_with_value, starts_of}
use Rattle.col_writer_rows.specs.Counted.{counts_of_rows}
use Rattle.col_writer_rows.proofs.CutLemmas.{front_same}
use Rattle.col_writer_rows.proofs.StartLemmas.{where_some, rows-more, starts_in, starts-split, starts-more, length-counts, counted-more}

abbrev pub count : ℕ → List ℕ → ℕ
count d docs = count_by (λ x. x == d) docs

-- one row more has its count behind the others
counts-row : (n : ℕ) (docs : List ℕ) → counts_of_rows (n + 1) docs ≡ counts_of_rows n docs ++ count n docs ∷ []
unfolding counts_of_rows
counts-row n docs = map-range_with_len_more (λ d. count d docs) 0 n n (omega arith)

-- documents below a row aren't it
pub none-above : (m d : ℕ) (docs : List ℕ) → are_below m docs ≡ true → m ≤ d → count d docs ≡ 0
none-above m d [] e h = refl
none-above m d (x ∷ xs) e h =
    let parts = and_parts (nat_lt x m) (are_below m xs) e in
    let apart : (x == d) ≡ false = grind (arith, parts.0, h) in
    sum_by-cons (λ z. cond (z == d) 1 0) x xs ∙ (λ i. cond (apart i) 1 0 + none-above m d xs parts.1 h i)

-- rows behind all documents have no values
pub rows-later : (m k : ℕ) (docs : List ℕ) → are_below m docs ≡ true
    → rows_with_value (counts_of_rows (m + k) docs) ≡ rows_with_value (counts_of_rows m docs)
rows-later m zero docs e = let z : m + 0 ≡ m = omega arith in ap (λ n. rows_with_value (counts_of_rows n docs)) z
rows-later m (suc k) docs e =
    let next : m + suc k ≡ (m + k) + 1 = omega arith in
    let cs = counts_of_rows (m + k) docs in
    ap (λ n. rows_with_value (counts_of_rows n docs)) next ∙ ap rows_with_value (counts-row (m + k) docs)
    ∙ ap (λ c. rows_with_value (cs ++ c ∷ [])) (none-above m (m + k) docs e (omega arith))
    ∙ rows-more cs 0 (m + k) (sym (length-counts (m + k) docs)) ∙ append-nil (rows_with_value cs)
    ∙ rows-later m k docs e

-- the starts of rows of which the last has so many values
starts-last : (cs : List ℕ) (c : ℕ) → starts_of (cs ++ c ∷ []) ≡ (starts_in 0 cs ++ where_some c (sum cs)) ++ (sum cs + c) ∷ []
unfolding starts_of
starts-last cs c =
    let z : sum cs ≡ 0 + sum cs = omega arith in
    sym (starts-more cs c (starts_in 0 cs) (starts_in 0 cs ++ where_some c (sum cs)) (sum cs) refl
    (ap (λ k. starts_in 0 cs ++ k ∷ []) z ∙ sym (starts-split 0 cs)) refl)

-- nor do they change the starts
pub starts-later : (m k : ℕ) (docs : List ℕ) → are_below m docs ≡ true
    → starts_of (counts_of_rows (m + k) docs) ≡ starts_of (counts_of_rows m docs)
unfolding starts_of
starts-later m zero docs e = let z : m + 0 ≡ m = omega arith in ap (λ n. starts_of (counts_of_rows n docs)) z
starts-later m (suc k) docs e =
    let next : m + suc k ≡ (m + k) + 1 = omega arith in
    let cs = counts_of_rows (m + k) docs in
    ap (λ n. starts_of (counts_of_rows n docs)) next ∙ ap starts_of (counts-row (m + k) docs)
    ∙ ap (λ c. starts_of (cs ++ c ∷ [])) (none-above m (m + k) docs e (omega arith))
    ∙ starts-last cs 0 ∙ starts-zero cs ∙ starts-later m k docs e
  where
    starts-zero : (cs : List ℕ) → (starts_in 0 cs ++ []) ++ (sum cs + 0) ∷ [] ≡ starts_of cs
    starts-zero cs =
        let z : sum cs + 0 ≡ 0 + sum cs = omega arith in
        (λ i. append-nil (starts_in 0 cs) i ++ z i ∷ []) ∙ sym (starts-split 0 cs)

-- a document isn't a row before it
pub counts-same : (d n : ℕ) (docs : List ℕ) → n ≤ d → counts_of_rows n (docs ++ d ∷ []) ≡ counts_of_rows n docs
unfolding counts_of_rows
counts-same d zero docs h = refl
counts-same d (suc n) docs h =
    let next : suc n ≡ n + 1 = omega arith in
    let apart : (d == n) ≡ false = grind (arith, h) in
    let same : count n (docs ++ d ∷ []) ≡ count n docs =
    counted-more docs d n ∙ ap (λ b. count n docs + cond b 1 0) apart ∙ omega arith in
    ap (λ k. counts_of_rows k (docs ++ d ∷ [])) next ∙ counts-row n (docs ++ d ∷ [])
    ∙ (λ i. counts-same d n docs (omega (arith, h)) i ++ same i ∷ []) ∙ sym (counts-row n docs)
    ∙ ap (λ k. counts_of_rows k docs) (sym next)

-- it is one more of its own row
pub count-next : (d : ℕ) (docs : List ℕ) → count d (docs ++ d ∷ []) ≡ count d docs + 1
count-next d docs =
    let same : (d == d) ≡ true = grind arith in
    counted-more docs d d ∙ ap (λ b. count d docs + cond b 1 0) same

pub below-next : (m d : ℕ) (docs : List ℕ) → d < m → are_below m docs ≡ true → are_below m (docs ++ d ∷ []) ≡ true
below-next m d [] h e = and_from (nat_lt d m) true (grind (arith, h)) refl
below-next m d (x ∷ xs) h e =
    let parts = and_parts (nat_lt x m) (are_below m xs) e in
    and_from (nat_lt x m) _ parts.0 (below-next m d xs h parts.1)

-- the rows with values, by those before the last document's
pub rows-at : (n d : ℕ) (docs : List ℕ) → d < n → are_below (d + 1) docs ≡ true
    → rows_with_value (counts_of_rows n docs) ≡ rows_with_value (counts_of_rows d docs) ++ where_some (count d docs) d
rows-at n d docs h e =
    let all : n ≡ (d + 1) + (n - (d + 1)) = omega (arith, h) in
    ap (λ k. rows_with_value (counts_of_rows k docs)) all ∙ rows-later (d + 1) (n - (d + 1)) docs e
    ∙ ap rows_with_value (counts-row d docs) ∙ rows-more (counts_of_rows d docs) (count d docs) d (sym (length-counts d docs))

pub starts-at : (n d : ℕ) (docs : List ℕ) → d < n → are_below (d + 1) docs ≡ true
    → starts_of (counts_of_rows n docs)
    ≡ (starts_in 0 (counts_of_rows d docs) ++ where_some (count d docs) (sum (counts_of_rows d docs)))
    ++ (sum (counts_of_rows d docs) + count d docs) ∷ []
starts-at n d docs h e =
    let all : n ≡ (d + 1) + (n - (d + 1)) = omega (arith, h) in
    ap (λ k. starts_of (counts_of_rows k docs)) all ∙ starts-later (d + 1) (n - (d + 1)) docs e
    ∙ ap starts_of (counts-row d docs) ∙ starts-last (counts_of_rows d docs) (count d docs)

pub last_same : (xs ys : List ℕ) (x y : ℕ) → xs ++ x ∷ [] ≡ ys ++ y ∷ [] → x ≡ y
last_same xs ys x y e =
    ap (λ l. get_or l 0 x) (append_cancel_left xs (x ∷ []) (y ∷ []) (e ∙ ap (λ l. l ++ y ∷ []) (sym (front_same xs ys x y e))))
