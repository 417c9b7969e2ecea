-- Documents in the order of their numbers, or of falling ones.
use Rattle.std.proofs.Common.{◌≡◌, ◌<◌, ◌≤◌, ℕ, ◌+◌, ◌-◌, ◌^◌, List, [], ◌∷◌, ◌++◌, length, map, get_or, Bool, true, false, refl, sym, ◌∙◌, ap, arith}
use Rattle.std.specs.Prelude.{nat_le, Result, Ok, Err, IfOk}
use Rattle.std.specs.List.{range_with_len}
use Rattle.std.specs.List.Sorted.{IsPermutation, IsSorted}
use Rattle.std.proofs.lemmas.List.FromFn.{map-range_with_len_more}
use Rattle.col_model.specs.Sorted.{sorted_items}
use Rattle.col_writer_columns.specs.Sorting.{turned, docs_by_number}
use Rattle.col_writer_columns.proofs.SortedLemmas.{pair_cmp, sorted-docs}

flipped : (x y : ℕ) → x < 2 ^ 128 → y < 2 ^ 128 → nat_le (2 ^ 128 - 1 - x) (2 ^ 128 - 1 - y) ≡ nat_le y x
flipped x y h l = by (nat_le y x) refl
  where
    by : (b : Bool) → nat_le y x ≡ b → nat_le (2 ^ 128 - 1 - x) (2 ^ 128 - 1 - y) ≡ b
    by true e = let up : y ≤ x = grind arith in let down : 2 ^ 128 - 1 - x ≤ 2 ^ 128 - 1 - y = omega arith in grind arith
    by false e = let up : x < y = grind arith in let down : 2 ^ 128 - 1 - y < 2 ^ 128 - 1 - x = omega (arith, h, l) in grind arith

-- sorted pairs have the documents in order
pub numbers-docs : (reversed : Bool) (ns : List ℕ) (ps ys : List (ℕ × ℕ)) → ((k : ℕ) → get_or ns k 0 < 2 ^ 128)
    → length ns < 2 ^ 32 → ps ≡ map (λ d. (turned reversed (get_or ns d 0), d)) (range_with_len 0 (length ns))
    → IsPermutation ps ys → IsSorted pair_cmp ys → map (λ p. p.1) ys ≡ docs_by_number reversed ns
numbers-docs false ns ps ys fit few is p s = sorted-docs (λ d. get_or ns d 0) (length ns) ps ys few is p s
numbers-docs true ns ps ys fit few is p s =
    sorted-docs (λ d. 2 ^ 128 - 1 - get_or ns d 0) (length ns) ps ys few is p s
    ∙ (λ i. sorted_items (λ a b. flipped (get_or ns a 0) (get_or ns b 0) (fit a) (fit b) i) (range_with_len 0 (length ns)))

-- what is given of them, where it is
pub given-docs :
    {V E : Type 0} (items : V → List ℕ) (reversed : Bool) (ns : List ℕ) (ps ys : List (ℕ × ℕ)) (r : Result V E)
    → ((k : ℕ) → get_or ns k 0 < 2 ^ 128) → length ns < 2 ^ 32
    → ps ≡ map (λ d. (turned reversed (get_or ns d 0), d)) (range_with_len 0 (length ns)) → IsPermutation ps ys
    → IsSorted pair_cmp ys → IfOk r (λ v. items v ≡ map (λ p. p.1) ys)
    → IfOk r (λ v. items v ≡ docs_by_number reversed ns)
given-docs items reversed ns ps ys (Ok v) fit few is p s h = h ∙ numbers-docs reversed ns ps ys fit few is p s
given-docs items reversed ns ps ys (Err e) fit few is p s h = tt

-- one pair more
pub numbered-more : (reversed : Bool) (ns : List ℕ) (ps qs : List (ℕ × ℕ)) (n v x : ℕ)
    → ps ≡ map (λ d. (turned reversed (get_or ns d 0), d)) (range_with_len 0 n) → qs ≡ ps ++ (v, n) ∷ []
    → v ≡ turned reversed x → x ≡ get_or ns n 0
    → qs ≡ map (λ d. (turned reversed (get_or ns d 0), d)) (range_with_len 0 (n + 1))
numbered-more reversed ns ps qs n v x is more as_turned at =
    let same : 0 + n ≡ n = omega arith in
    more ∙ (λ i. is i ++ ((as_turned ∙ ap (turned reversed) at) i, n) ∷ [])
    ∙ sym (map-range_with_len_more (λ d. (turned reversed (get_or ns d 0), d)) 0 n n same)
