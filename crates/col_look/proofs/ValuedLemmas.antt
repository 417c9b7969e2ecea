-- How many rows have a value.
use Rattle.std.proofs.Common.{◌≡◌, ℕ, zero, suc, ◌+◌, ◌≤◌, ◌==◌, not, Bool, true, false, cond, List, [], ◌∷◌, length, replicate, get_or, refl, sym, ◌∙◌, ap, arith}
use Rattle.std.specs.List.{range_with_len}
use Rattle.std.proofs.lemmas.List.FromFn.{length-range_with_len}
use Rattle.col_model.specs.Index.{RowSet, set_counts}
use Rattle.col_model.specs.Positions.{rows_with_value, starts_after, starts_of}
use Rattle.col_model.proofs.ListLaws.{filter-few}
use Rattle.col_index.specs.Sets.{AreRows}
use Rattle.col_index.proofs.CountLaws.{set_counts-rows}
use Rattle.col_index.proofs.RowsLaws.{rows_from, rows_with_value-from}

none-from : (a m : ℕ) → rows_from a (replicate m 0) ≡ []
none-from a zero = refl
none-from a (suc m) = none-from (suc a) m

-- no row has a value where none is counted
pub none-valued : (m : ℕ) → 0 ≡ length (rows_with_value (replicate m 0))
none-valued m = sym (ap length (rows_with_value-from (replicate m 0) ∙ none-from 0 m))

all-from : (a m : ℕ) → length (rows_from a (replicate m 1)) ≡ m
all-from a zero = refl
all-from a (suc m) = ap suc (all-from (suc a) m)

-- each row has one where each has one
pub all-valued : (m : ℕ) → m ≡ length (rows_with_value (replicate m 1))
all-valued m = sym (ap length (rows_with_value-from (replicate m 1)) ∙ all-from 0 m)

-- those of a set have one
pub set-valued : (s : RowSet) (n : ℕ) → AreRows s → n ≡ length s.rows → n ≡ length (rows_with_value (set_counts s))
set-valued s n are e = e ∙ ap length (sym (set_counts-rows s are))

starts-behind : (before a : ℕ) (cs : List ℕ) → length (starts_after before cs) ≡ suc (length (rows_from a cs))
starts-behind before a [] = refl
starts-behind before a (c ∷ cs) = go (c == 0) (starts-behind (before + c) (suc a) cs)
  where
    go : (b : Bool) → length (starts_after (before + c) cs) ≡ suc (length (rows_from (suc a) cs))
        → length (cond b (starts_after (before + c) cs) (before ∷ starts_after (before + c) cs))
        ≡ suc (length (cond (not b) (a ∷ rows_from (suc a) cs) (rows_from (suc a) cs)))
    go true e = e
    go false e = ap suc e

-- there is a start more than rows with a value
pub starts-valued : (cs : List ℕ) → length (starts_of cs) ≡ suc (length (rows_with_value cs))
unfolding starts_of
starts-valued cs = starts-behind 0 0 cs ∙ ap (λ rows. suc (length rows)) (sym (rows_with_value-from cs))

-- no more rows have a value than there are
pub valued-few : (cs : List ℕ) → length (rows_with_value cs) ≤ length cs
valued-few cs =
    let few = filter-few (λ row. not (get_or cs row 0 == 0)) (range_with_len 0 (length cs)) in
    omega (arith, few, length-range_with_len 0 (length cs))
