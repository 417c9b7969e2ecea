-- The counts that a shape gives to a segment's rows.
use Rattle.std.proofs.Common.{◌≡◌, ℕ, true, List, length, map, get_or, refl, sym}
use Rattle.std.specs.List.{range_with_len}
use Rattle.std.proofs.lemmas.Bool.{eqb-true}
use Rattle.std.proofs.lemmas.List.FromFn.{fill_by_all, length-map-range_with_len}
use Rattle.col_model.specs.Index.{Shape, empty_shape, full_shape, optional_shape, multivalued_shape}
use Rattle.col_model.specs.Positions.{count_in}
use Rattle.col_indexer.specs.Counted.{counts_in}
use Rattle.col_indexer.specs.Merged.{is_over}

-- a shape of so many rows has so many counts
pub length-counts_in : (n : ℕ) (s : Shape) → is_over n s ≡ true → length (counts_in n s) ≡ n
length-counts_in n (empty_shape m) e = length-map-range_with_len (λ row. 0) 0 n
length-counts_in n full_shape e = length-map-range_with_len (λ row. 1) 0 n
length-counts_in n (optional_shape cs) e = eqb-true (length cs) n e
length-counts_in n (multivalued_shape cs) e = eqb-true (length cs) n e

-- a list read place by place
pub read_one_by_one : (n : ℕ) (cs : List ℕ) → length cs ≡ n → map (λ row. get_or cs row 0) (range_with_len 0 n) ≡ cs
read_one_by_one n cs e = sym (fill_by_all (λ row. get_or cs row 0) cs n 0 e (λ k h. refl))

-- counts of a shape, row by row
pub counts_one_by_one : (n : ℕ) (s : Shape) → is_over n s ≡ true → map (count_in s) (range_with_len 0 n) ≡ counts_in n s
counts_one_by_one n (empty_shape m) e = refl
counts_one_by_one n full_shape e = refl
counts_one_by_one n (optional_shape cs) e = read_one_by_one n cs (eqb-true (length cs) n e)
counts_one_by_one n (multivalued_shape cs) e = read_one_by_one n cs (eqb-true (length cs) n e)
