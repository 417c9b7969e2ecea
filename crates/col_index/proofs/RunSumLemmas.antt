-- Sums of the lengths of runs.
use Rattle.std.proofs.Common.{◌≡◌, ℕ, zero, suc, ◌+◌, ◌<◌, ◌≤◌, List, [], ◌∷◌, ◌++◌, length, take, drop, sum, get_or, refl, sym, ap, ◌∙◌, append_assoc, arith}
use Rattle.std.proofs.lemmas.List.{drop_more}
use Rattle.col_common.specs.Ascending.{differences}
use Rattle.col_model.proofs.ListLaws.{sum-cons}
use Rattle.col_index.specs.Runs.{sums_from}

-- counts are the differences of their sums
pub differences-sums : (before : ℕ) (cs : List ℕ) → differences (sums_from before cs) ≡ cs
differences-sums before [] = refl
differences-sums before (c ∷ []) = ap (λ d. d ∷ []) (omega arith)
differences-sums before (c ∷ d ∷ cs) =
    ap (λ e. e ∷ differences (sums_from (before + c) (d ∷ cs))) (omega arith)
    ∙ ap (λ ds. c ∷ ds) (differences-sums (before + c) (d ∷ cs))

-- there is one sum more than counts
pub length-sums : (before : ℕ) (cs : List ℕ) → length (sums_from before cs) ≡ suc (length cs)
length-sums before [] = refl
length-sums before (c ∷ cs) = ap suc (length-sums (before + c) cs)

-- what the counts before a place come to stands there
pub sum_at : (before k : ℕ) (cs : List ℕ) → k ≤ length cs → get_or (sums_from before cs) k 0 ≡ before + sum (take k cs)
sum_at before zero [] h = omega arith
sum_at before (suc k) [] h = absurd (omega arith)
sum_at before zero (c ∷ cs) h = omega arith
sum_at before (suc k) (c ∷ cs) h = sum_at (before + c) k cs (omega arith) ∙ omega (arith, sum-cons c (take k cs))

-- a sum that came to those found
pub sum_pushed : (total at : ℕ) (found new cs all : List ℕ) → at < length cs → new ≡ found ++ total ∷ []
    → found ++ sums_from total (drop at cs) ≡ all → new ++ sums_from (total + get_or cs at 0) (drop (at + 1) cs) ≡ all
sum_pushed total at found new cs all h n e =
    let later = sums_from (total + get_or cs at 0) (drop (at + 1) cs) in
    ap (λ xs. xs ++ later) n ∙ append_assoc found (total ∷ []) later
    ∙ sym (ap (λ left. found ++ sums_from total left) (drop_more cs at 0 h)) ∙ e
