-- The rows that an order picks.
use Rattle.std.proofs.Common.{◌≡◌, ◌+◌, ◌∷◌, [], ℕ, List, true, Some, ap, sym, ◌∙◌, refl, arith, length, map, sum}
use Rattle.std.specs.List.{list_all, flat_map, range_with_len, enumerate_from}
use Rattle.std.proofs.lemmas.Cmp.{nat_list_eq_equiv}
use Rattle.std.proofs.lemmas.List.{length-append}
use Rattle.std.proofs.lemmas.List.Sums.{sum_by-cons}
use Rattle.std.proofs.lemmas.List.FromFn.{length-map-range_with_len}
use Rattle.col_model.specs.Order.{all_rows, has_row, picks, shuffle}

-- the rows of a segment
abbrev rows_of : ℕ × ℕ → List (ℕ × ℕ)
rows_of p = map (λ r. (p.0, r)) (range_with_len 0 p.1)

-- as many as it has
length-rows_of : (p : ℕ × ℕ) → length (rows_of p) ≡ p.1
length-rows_of p = let pair : ℕ → ℕ × ℕ = λ r. (p.0, r) in length-map-range_with_len pair 0 p.1

-- the same for all segments from one on
length-rows_from : (s : ℕ) (counts : List ℕ) → length (flat_map rows_of (enumerate_from s counts)) ≡ sum counts
length-rows_from s [] = refl
length-rows_from s (n ∷ counts) =
    let rest : List (ℕ × ℕ) = flat_map rows_of (enumerate_from (s + 1) counts) in
    length-append (rows_of (s, n)) rest
    ∙ (ap (λ k. k + length rest) (length-rows_of (s, n))
    ∙ (ap (λ k. n + k) (length-rows_from (s + 1) counts)
    ∙ sym (sum_by-cons (λ k. k) n counts)))

-- a stack picks as many rows as its segments have
pub length-all_rows : (counts : List ℕ) → length (all_rows counts) ≡ sum counts
length-all_rows counts = length-rows_from 0 counts

-- a shuffle picks the rows that it names
pub picks-shuffle : (counts : List ℕ) (addresses : List (ℕ × ℕ)) → list_all (has_row counts) addresses ≡ true
    → picks (shuffle counts addresses) counts ≡ Some addresses
unfolding picks
picks-shuffle counts addresses h = grind (arith, nat_list_eq_equiv.refl counts)
