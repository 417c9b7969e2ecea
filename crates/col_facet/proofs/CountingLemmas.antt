-- Counts of the values of documents, block by block.
use Rattle.std.proofs.Common.{◌≡◌, ℕ, zero, suc, ◌+◌, ◌-◌, ◌^◌, ◌<◌, ◌≤◌, nat_lt, Bool, true, false, cond, List, [], ◌∷◌, ◌++◌, take, drop, length, get_or, refl, sym, ◌∙◌, ap, arith}
use Rattle.std.specs.List.{count_by}
use Rattle.std.specs.Prelude.{slice_index, slice_index_or, slice_set}
use Rattle.std.proofs.Math.ListN.{get_or-eq_default}
use Rattle.std.proofs.lemmas.Bool.{ltb-true, ltb-false}
use Rattle.std.proofs.lemmas.List.{length-append}
use Rattle.std.proofs.lemmas.List.Sums.{count_by-le-length, sum_by-append}
use Rattle.col_common.specs.Ascending.{AreBelow, is_rising}
use Rattle.col_model.specs.Index.{Shape}
use Rattle.col_model.proofs.ListLaws.{all_taken}
use Rattle.col_column.specs.Columns.{rows_by, row_count, IsCounted}
use Rattle.col_facet.specs.Values.{values_in_rows}
use Rattle.col_facet.proofs.DocLemmas.{values-both, values-few, take-next, rising-take}

-- counts of fewer than 2 ^ 32 items leave room for those of a block
counted-fits : {T : Type 0} (test : ℕ → T → Bool) (counts : List ℕ) (before block : List T)
    → ((i : ℕ) → i < length counts → get_or counts i 0 ≡ count_by (test i) before)
    → length before + length block < 2 ^ 32 → (i : ℕ) → get_or counts i 0 + length block < 2 ^ 64
counted-fits test counts before block told few i = go (nat_lt i (length counts)) refl
  where
    go : (b : Bool) → nat_lt i (length counts) ≡ b → get_or counts i 0 + length block < 2 ^ 64
    go true e = omega (arith, told i (ltb-true i (length counts) e), count_by-le-length (test i) before, few)
    go false e = omega (arith, get_or-eq_default counts 0 (ltb-false i (length counts) e), few)

-- the same of the values of documents
pub block-fits : {T : Type 0} (test : ℕ → T → Bool) (counts : List ℕ) (s : Shape) (xs : List T) (docs : List ℕ) (at next : ℕ)
    (block : List T) → IsCounted s (length xs) → length xs < 2 ^ 32 → is_rising docs ≡ true → AreBelow (row_count s (length xs)) docs
    → at ≤ next → block ≡ values_in_rows (rows_by s xs) (take (next - at) (drop at docs))
    → ((i : ℕ) → i < length counts → get_or counts i 0 ≡ count_by (test i) (values_in_rows (rows_by s xs) (take at docs)))
    → (i : ℕ) → get_or counts i 0 + length block < 2 ^ 64
block-fits test counts s xs docs at next block counted few up below order is told =
    let before = values_in_rows (rows_by s xs) (take at docs) in
    let most = values-few s xs (take next docs) counted (rising-take next docs up)
    (all_taken (λ d. d < row_count s (length xs)) next docs below) in
    let whole : before ++ block ≡ values_in_rows (rows_by s xs) (take next docs) =
    ap (λ ys. before ++ ys) is ∙ sym (values-both (rows_by s xs) (take at docs) (take (next - at) (drop at docs)))
    ∙ ap (values_in_rows (rows_by s xs)) (take-next docs at next order) in
    let size : length before + length block ≡ length (values_in_rows (rows_by s xs) (take next docs)) =
    sym (length-append before block) ∙ ap length whole in
    counted-fits test counts before block told (omega (arith, size, most, few))

-- counts with those of a block
pub block-counted : {T : Type 0} (test : ℕ → T → Bool) (old new : List ℕ) (rows : List (List T)) (docs : List ℕ) (at next : ℕ)
    (block : List T) → at ≤ next → block ≡ values_in_rows rows (take (next - at) (drop at docs))
    → ((i : ℕ) → i < length old → get_or old i 0 ≡ count_by (test i) (values_in_rows rows (take at docs)))
    → ((i : ℕ) → i < length old → get_or new i 0 ≡ get_or old i 0 + count_by (test i) block)
    → (i : ℕ) → i < length old → get_or new i 0 ≡ count_by (test i) (values_in_rows rows (take next docs))
block-counted {T = T} test old new rows docs at next block order is told more i h =
    let before = values_in_rows rows (take at docs) in
    more i h ∙ ap (λ n. n + count_by (test i) block) (told i h)
    ∙ sym (sum_by-append (λ (x : T). cond (test i x) 1 0) before block)
    ∙ ap (count_by (test i)) (ap (λ ys. before ++ ys) is ∙ sym (values-both rows (take at docs) (take (next - at) (drop at docs)))
    ∙ ap (values_in_rows rows) (take-next docs at next order))

-- ---- the same of a list of values, from its front

-- counts of the values before a place leave room for those from there up to another
pub part-fits : {T : Type 0} (test : ℕ → T → Bool) (counts : List ℕ) (xs : List T) (at next : ℕ) (block : List T)
    → length xs < 2 ^ 32 → at ≤ next → block ≡ take (next - at) (drop at xs)
    → ((i : ℕ) → i < length counts → get_or counts i 0 ≡ count_by (test i) (take at xs))
    → (i : ℕ) → get_or counts i 0 + length block < 2 ^ 64
part-fits test counts xs at next block few order is told =
    let whole : take at xs ++ block ≡ take next xs = ap (λ ys. take at xs ++ ys) is ∙ take-next xs at next order in
    let size : length (take at xs) + length block ≡ length (take next xs) =
    sym (length-append (take at xs) block) ∙ ap length whole in
    counted-fits test counts (take at xs) block told (omega (arith, size, few, length-take-most next xs))
  where
    length-take-most : {T : Type 0} (n : ℕ) (xs : List T) → length (take n xs) ≤ length xs
    length-take-most zero xs = omega arith
    length-take-most (suc n) [] = omega arith
    length-take-most (suc n) (x ∷ xs) = let h = length-take-most n xs in omega (arith, h)

-- counts with those of the values from there up to another
pub part-counted : {T : Type 0} (test : ℕ → T → Bool) (old new : List ℕ) (xs : List T) (at next : ℕ) (block : List T)
    → at ≤ next → block ≡ take (next - at) (drop at xs)
    → ((i : ℕ) → i < length old → get_or old i 0 ≡ count_by (test i) (take at xs))
    → ((i : ℕ) → i < length old → get_or new i 0 ≡ get_or old i 0 + count_by (test i) block)
    → (i : ℕ) → i < length old → get_or new i 0 ≡ count_by (test i) (take next xs)
part-counted {T = T} test old new xs at next block order is told more i h =
    more i h ∙ ap (λ n. n + count_by (test i) block) (told i h)
    ∙ sym (sum_by-append (λ (x : T). cond (test i x) 1 0) (take at xs) block)
    ∙ ap (count_by (test i)) (ap (λ ys. take at xs ++ ys) is ∙ take-next xs at next order)

-- two counts that grow
pub two-counts : (cs : List ℕ) (p q base : ℕ) (f : ℕ → ℕ) → length cs ≡ 2 → p ≡ f base → q ≡ f (base + 1) → (i : ℕ)
    → i < length cs → slice_index (slice_set (slice_set cs 0 (slice_index_or cs 0 0 + p)) 1
    (slice_index_or (slice_set cs 0 (slice_index_or cs 0 0 + p)) 1 0 + q)) i ≡ slice_index cs i + f (base + i)
two-counts [] p q base f two e h i below = absurd (omega arith)
two-counts (x ∷ []) p q base f two e h i below = absurd (omega arith)
two-counts (x ∷ y ∷ z ∷ cs) p q base f two e h i below = absurd (omega arith)
two-counts (x ∷ y ∷ []) p q base f two e h zero below =
    let none : base ≡ base + 0 = omega arith in
    ap (λ n. x + n) (e ∙ ap f none)
two-counts (x ∷ y ∷ []) p q base f two e h (suc zero) below = ap (λ n. y + n) h
two-counts (x ∷ y ∷ []) p q base f two e h (suc (suc i)) below = absurd (omega arith)
