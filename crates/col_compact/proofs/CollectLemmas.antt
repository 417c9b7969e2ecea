-- A list that is collected by a walk.
use Rattle.std.proofs.Common.{◌≡◌, ℕ, ◌+◌, ◌-◌, ◌^◌, ◌≤◌, List, [], ◌∷◌, ◌++◌, length, append_assoc, append-nil, length-append, sym, ◌∙◌, ap, arith}

-- before the first item all is left to be collected
pub collected-none : (values left all : List ℕ) → values ≡ [] → left ≡ all → values ++ left ≡ all
collected-none values left all e f = ap (λ ys. ys ++ left) e ∙ f

-- what is collected and what is left are all, with one more item collected too
pub collected-more : (values now left rest all : List ℕ) (x : ℕ) → values ++ left ≡ all → left ≡ x ∷ rest
    → now ≡ values ++ x ∷ [] → now ++ rest ≡ all
collected-more values now left rest all x whole e f =
    ap (λ ys. ys ++ rest) f ∙ append_assoc values (x ∷ []) rest ∙ ap (λ ys. values ++ ys) (sym e) ∙ whole

-- where nothing is left, all was collected
pub collected-all : (values left all : List ℕ) → values ++ left ≡ all → left ≡ [] → values ≡ all
collected-all values left all whole e = sym (append-nil values) ∙ ap (λ ys. values ++ ys) (sym e) ∙ whole

-- a list of which 2 ^ 32 - 1 items were collected and one is left has 2 ^ 32 items at least
pub collected-many : (values left rest all : List ℕ) (x : ℕ) → values ++ left ≡ all → left ≡ x ∷ rest
    → 2 ^ 32 - 1 ≤ length values → 2 ^ 32 ≤ length all
collected-many values left rest all x whole e many =
    let counts : length values + length left ≡ length all = sym (length-append values left) ∙ ap length whole in
    let more = ap length e in
    omega (arith, counts, more, many)
