-- Rows with values, cut by how far their starts lie apart.
use Rattle.std.proofs.Common.{◌≡◌, ◌≤◌, ◌<◌, ℕ, zero, suc, ◌+◌, ◌-◌, List, [], ◌∷◌, ◌++◌, length, take, drop, sum, get_or, false, cond, refl, sym, ◌∙◌, ap, arith, append_assoc, append-nil}
use Rattle.std.specs.Prelude.{◌==◌, nat_le}
use Rattle.std.proofs.lemmas.List.{drop_more, drop_all}
use Rattle.std.proofs.lemmas.List.Sums.{sum_by-cons}
use Rattle.col_model.specs.Dictionary.{cut}
use Rattle.col_model.specs.Positions.{starts_after, starts_of}
use Rattle.col_model.specs.Sorted.{sorted_items}
use Rattle.col_writer_rows.specs.Counted.{steps_from}
use Rattle.col_writer_rows.proofs.SortLemmas.{sorted_rows}

-- one step more
pub step-next : (steps more xs : List ℕ) (last i x step : ℕ) (all : List ℕ)
    → steps ++ steps_from last (drop i xs) ≡ all → i < length xs → get_or xs i 0 ≡ x → step ≡ x - last
    → more ≡ steps ++ step ∷ [] → more ++ steps_from x (drop (i + 1) xs) ≡ all
unfolding steps_from
step-next steps more xs last i x step all h low e f g =
    let split : drop i xs ≡ x ∷ drop (i + 1) xs = drop_more xs i 0 low ∙ ap (λ v. v ∷ drop (i + 1) xs) e in
    ap (λ l. l ++ steps_from x (drop (i + 1) xs)) g ∙ append_assoc steps (step ∷ []) (steps_from x (drop (i + 1) xs))
    ∙ ap (λ k. steps ++ k ∷ steps_from x (drop (i + 1) xs)) f ∙ ap (λ l. steps ++ steps_from last l) (sym split) ∙ h

-- all steps
pub steps-all : (steps xs : List ℕ) (last i : ℕ) (all : List ℕ) → steps ++ steps_from last (drop i xs) ≡ all
    → length xs ≤ i → steps ≡ all
unfolding steps_from
steps-all steps xs last i all h end =
    sym (append-nil steps) ∙ ap (λ l. steps ++ steps_from last l) (sym (drop_all i xs end)) ∙ h

steps-sum : (a b : ℕ) (cs : List ℕ) → sum (steps_from a (starts_after b cs)) ≡ (b - a) + sum cs
unfolding steps_from
steps-sum a b [] = sum_by-cons (λ x. x) (b - a) []
steps-sum a b (zero ∷ cs) =
    let z : b + 0 ≡ b = omega arith in
    ap (λ k. sum (steps_from a (starts_after k cs))) z ∙ steps-sum a b cs
    ∙ omega (arith, sum_by-cons (λ x. x) 0 cs)
steps-sum a b (suc c ∷ cs) =
    let s : (suc c == 0) ≡ false = grind arith in
    let own : (b + suc c) - b ≡ suc c = omega arith in
    ap (λ t. sum (steps_from a (cond t (starts_after (b + suc c) cs) (b ∷ starts_after (b + suc c) cs)))) s
    ∙ sum_by-cons (λ x. x) (b - a) (steps_from b (starts_after (b + suc c) cs))
    ∙ omega (arith, steps-sum b (b + suc c) cs, own, sum_by-cons (λ x. x) (suc c) cs)

-- steps sum up to as many values as rows have
pub sum-steps : (cs : List ℕ) → sum (steps_from 0 (starts_of cs)) ≡ sum cs
unfolding starts_of
sum-steps cs = steps-sum 0 0 cs ∙ omega arith

steps-sorted : (a b : ℕ) (cs xs : List ℕ) → sorted_rows (steps_from a (starts_after b cs)) xs ≡ sorted_rows ((b - a) ∷ cs) xs
unfolding steps_from cut sorted_items
steps-sorted a b [] xs = refl
steps-sorted a b (zero ∷ cs) xs =
    let z : b + 0 ≡ b = omega arith in
    ap (λ k. sorted_rows (steps_from a (starts_after k cs)) xs) z ∙ steps-sorted a b cs xs
steps-sorted a b (suc c ∷ cs) xs =
    let s : (suc c == 0) ≡ false = grind arith in
    let own : (b + suc c) - b ≡ suc c = omega arith in
    ap (λ t. sorted_rows (steps_from a (cond t (starts_after (b + suc c) cs) (b ∷ starts_after (b + suc c) cs))) xs) s
    ∙ ap (λ l. sorted_items nat_le (take (b - a) xs) ++ l) (steps-sorted b (b + suc c) cs (drop (b - a) xs)
    ∙ ap (λ k. sorted_rows (k ∷ cs) (drop (b - a) xs)) own)

-- numbers sorted between the starts are those of rows sorted
pub sorted-steps : (cs xs : List ℕ) → sorted_rows (steps_from 0 (starts_of cs)) xs ≡ sorted_rows cs xs
unfolding starts_of cut sorted_items
sorted-steps cs xs = steps-sorted 0 0 cs xs
