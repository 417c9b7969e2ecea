-- The numbers of a range that are in a rising list.
use Rattle.std.proofs.Common.{◌≡◌, ℕ, ◌==◌, not, Bool, List, get_or, sym, ap, ◌∙◌}
use Rattle.std.specs.List.{filter, range_with_len}
use Rattle.col_model.specs.Index.{RowSet, set_counts}
use Rattle.col_index.specs.Sets.{AreRows, holds}
use Rattle.col_index.proofs.CountLaws.{set_counts-rows, length-set_counts}
use Rattle.col_index.proofs.PositionLemmas.{set-holds}

-- tests that agree keep the same
pub filter-agree : {A : Type 0} (p q : A → Bool) → ((x : A) → p x ≡ q x) → (xs : List A) → filter p xs ≡ filter q xs
filter-agree p q e xs = let same : p ≡ q = λ i. λ x. e x i in ap (λ test. filter test xs) same

-- the rows of a set, found by a test among all rows
pub filter-holds : (s : RowSet) → AreRows s → (test : ℕ → Bool) → ((row : ℕ) → test row ≡ holds s.rows row)
    → filter test (range_with_len 0 s.num_rows) ≡ s.rows
filter-holds s a test e =
    let valued : ℕ → Bool = λ row. not (get_or (set_counts s) row 0 == 0) in
    filter-agree test valued (λ row. e row ∙ set-holds s a row) (range_with_len 0 s.num_rows)
    ∙ ap (λ n. filter valued (range_with_len 0 n)) (sym (length-set_counts s))
    ∙ set_counts-rows s a
