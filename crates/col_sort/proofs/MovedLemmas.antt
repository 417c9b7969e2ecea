-- Rows by their keys are all rows.
use Rattle.std.proofs.Common.{◌≡◌, ℕ, ◌<◌, ◌≤◌, ◌+◌, ◌^◌, zero, suc, Bool, true, false, List, [], ◌∷◌, map, refl, ◌∙◌, ap, subst, length, sum, arith, lt-ltb, IsPermutation}
use Rattle.std.specs.Prelude.{nat_lt, nat_le, flat_map, slice_get, unwrap_or, option_map, if◌then◌else◌, Option, Some, None}
use Rattle.std.specs.List.{list_all, AllByRecursion, range_with_len, enumerate_from}
use Rattle.std.specs.declared.cmp.Ordering.{Ordering}
use Rattle.std.proofs.lemmas.Bool.{and_from}
use Rattle.std.proofs.lemmas.List.Sorted.{IsPermutation-map, length_permutation}
use Rattle.col_common.specs.declared.error.ColumnarError.TheVariants.{BadOrder, TooLarge}
use Rattle.col_model.specs.Order.{all_rows, has_row}
use Rattle.col_model.proofs.ListLaws.{all-two}
use Rattle.col_model.proofs.SortLaws.{moved-sorted}
use Rattle.col_model.proofs.PermutationLaws.{all-moved}
use Rattle.col_order.specs.Orders.{shuffle_refusal}
use Rattle.col_order.proofs.PickLemmas.{length-all_rows}
use Rattle.col_sort_rows.specs.Keys.{stand_in_order, rows_of_all, rows_by_keys}
use Rattle.col_sort_rows.proofs.RowLemmas.{rows-are-all}

-- they are those of segments with as many rows as keys
pub rows-moved : {K : Type 0} (cmp : K → K → Ordering) (reversed : Bool) (kss : List (List (Option K))) (counts : List ℕ)
    → map length kss ≡ counts → IsPermutation (all_rows counts) (rows_by_keys cmp reversed kss)
unfolding rows_by_keys
rows-moved cmp reversed kss counts e =
    let zs = rows_of_all 0 kss in
    let in_order = λ (x y : (ℕ × ℕ) × Option _). stand_in_order cmp reversed x.1 y.1 in
    subst (λ rows. IsPermutation rows (rows_by_keys cmp reversed kss)) (rows-are-all kss ∙ ap all_rows e)
    (IsPermutation-map (λ (z : (ℕ × ℕ) × Option _). z.0) zs _ (moved-sorted in_order zs))

-- ---- all rows are there

there-from : (counts : List ℕ) (k n r m : ℕ) → slice_get counts k ≡ Some n → r + m ≤ n
    → AllByRecursion (λ a. has_row counts a ≡ true) (map (λ r. (k, r)) (range_with_len r m))
there-from counts k n r zero at h = tt
there-from counts k n r (suc m) at h =
    let less : nat_lt r n ≡ true = lt-ltb _ _ (omega arith) in (
      ap (λ o. unwrap_or (option_map (λ n. nat_lt r n) o) false) at ∙ less,
      there-from counts k n (r + 1) m at (omega arith),
    )

there-all : (counts : List ℕ) (k : ℕ) (ns : List ℕ) → ((j : ℕ) → slice_get counts (k + j) ≡ slice_get ns j)
    → AllByRecursion (λ a. has_row counts a ≡ true)
    (flat_map (λ (p : ℕ × ℕ). map (λ r. (p.0, r)) (range_with_len 0 p.1)) (enumerate_from k ns))
there-all counts k [] at = tt
there-all counts k (n ∷ ns) at =
    let here : k ≡ k + 0 = omega arith in
    let more = λ (j : ℕ). (let e : k + 1 + j ≡ k + suc j = omega arith in e) in
    all-two (λ a. has_row counts a ≡ true) (map (λ r. (k, r)) (range_with_len 0 n))
    (flat_map (λ (p : ℕ × ℕ). map (λ r. (p.0, r)) (range_with_len 0 p.1)) (enumerate_from (k + 1) ns))
    (there-from counts k n 0 n (ap (slice_get counts) here ∙ at 0) (omega arith))
    (there-all counts (k + 1) ns (λ j. ap (slice_get counts) (more j) ∙ at (suc j)))

-- a test that each item passes, all pass
all-pass : {A : Type 0} (p : A → Bool) (xs : List A) → AllByRecursion (λ x. p x ≡ true) xs → list_all p xs ≡ true
all-pass p [] h = refl
all-pass p (x ∷ xs) h = and_from (p x) (list_all p xs) h.0 (all-pass p xs h.1)

-- all rows in another order are a shuffle that isn't refused
pub none-refused : (counts : List ℕ) (rows : List (ℕ × ℕ)) → sum counts < 2 ^ 32 → IsPermutation (all_rows counts) rows
    → shuffle_refusal counts rows ≡ None
none-refused counts rows few moved =
    let there = all-pass (has_row counts) rows (all-moved (λ a. has_row counts a ≡ true) (all_rows counts) rows moved
    (there-all counts 0 counts (λ j. (let e : 0 + j ≡ j = omega arith in ap (slice_get counts) e)))) in
    let many : length rows ≡ sum counts = length_permutation (all_rows counts) rows moved ∙ length-all_rows counts in
    let below : length rows < 2 ^ 32 = omega (arith, many) in
    let fits : nat_le (2 ^ 32) (length rows) ≡ false = grind arith in
    ap (λ b. if b then (if nat_le (2 ^ 32) (length rows) then Some TooLarge else None) else Some BadOrder) there
    ∙ ap (λ b. if b then Some TooLarge else None) fits
