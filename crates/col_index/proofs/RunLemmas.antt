-- Runs of equal start offsets, one after another.
use Rattle.std.proofs.Common.{◌≡◌, ℕ, zero, suc, ◌+◌, ◌-◌, ◌<◌, ◌≤◌, ◌==◌, nat_le, true, false, cond, not, List, [], ◌∷◌, ◌++◌, length, drop, get_or, sym, ap, ◌∙◌, add-one, drop-cons, append_assoc, arith}
use Rattle.std.proofs.lemmas.Bool.{and_parts, leb-true, eq-eqb, ne_eqb}
use Rattle.col_common.specs.Ascending.{is_never_falling, differences}
use Rattle.col_model.specs.Positions.{rows_with_value, starts_after, starts_of}
use Rattle.col_index.proofs.RowsLaws.{rows_from, rows_with_value-from}

-- what is still to come from a row on
abbrev pub rows_left : List ℕ → ℕ → List ℕ
rows_left offsets row = rows_from row (differences (drop row offsets))

-- and where the values of these start
abbrev pub starts_left : List ℕ → ℕ → List ℕ
starts_left offsets row = starts_after (get_or offsets row 0) (differences (drop row offsets))

-- the offset of the next row is no less
pub next_offset : (offsets : List ℕ) (row : ℕ) → is_never_falling offsets ≡ true → suc row < length offsets
    → get_or offsets row 0 ≤ get_or offsets (suc row) 0
next_offset [] row e h = absurd (omega arith)
next_offset (x ∷ []) row e h = absurd (omega arith)
next_offset (x ∷ y ∷ zs) zero e h = leb-true x y (and_parts (nat_le x y) (is_never_falling (y ∷ zs)) e).0
next_offset (x ∷ y ∷ zs) (suc row) e h = next_offset (y ∷ zs) row (and_parts (nat_le x y) (is_never_falling (y ∷ zs)) e).1 (omega arith)

-- an item that came to those found
pub pushed : (x : ℕ) (found left later all new : List ℕ) → left ≡ x ∷ later → new ≡ found ++ x ∷ []
    → found ++ left ≡ all → new ++ later ≡ all
pushed x found left later all new l n e = ap (λ xs. xs ++ later) n ∙ append_assoc found (x ∷ []) later ∙ ap (λ xs. found ++ xs) (sym l) ∙ e

module _ (offsets : List ℕ) (row : ℕ) (more : row < length offsets - 1) where
  here : ℕ
  here = get_or offsets row 0

  next : ℕ
  next = get_or offsets (row + 1) 0

  behind : List ℕ
  behind = drop (row + 1 + 1) offsets

  two : drop row offsets ≡ here ∷ next ∷ behind
  unfolding here next behind
  two =
      let h : row < length offsets = omega arith in
      let k : suc row < length offsets = omega arith in
      rw (add-one row, add-one (suc row))
      (drop-cons offsets row 0 h ∙ ap (λ xs. get_or offsets row 0 ∷ xs) (drop-cons offsets (suc row) 0 k))

  one : drop (row + 1) offsets ≡ next ∷ behind
  unfolding next behind
  one = let k : suc row < length offsets = omega arith in rw (add-one row, add-one (suc row)) (drop-cons offsets (suc row) 0 k)

  -- what one row adds to the rows
  rows-step : rows_left offsets row ≡ cond (not (next - here == 0)) (row ∷ rows_left offsets (row + 1)) (rows_left offsets (row + 1))
  rows-step =
      ap (λ xs. rows_from row (differences xs)) two
      ∙ ap (λ k. cond (not (next - here == 0)) (row ∷ rows_from k (differences (next ∷ behind)))
      (rows_from k (differences (next ∷ behind)))) up
      ∙ ap (λ xs. cond (not (next - here == 0)) (row ∷ rows_from (row + 1) (differences xs))
      (rows_from (row + 1) (differences xs))) (sym one)
    where
      up : suc row ≡ row + 1
      up = omega arith

  -- and to the starts
  starts-step : here ≤ next
      → starts_left offsets row
      ≡ cond (next - here == 0) (starts_left offsets (row + 1)) (here ∷ starts_left offsets (row + 1))
  unfolding here next
  starts-step h =
      ap (λ xs. starts_after here (differences xs)) two
      ∙ ap (λ n. cond (next - here == 0) (starts_after n (differences (next ∷ behind)))
      (here ∷ starts_after n (differences (next ∷ behind)))) up
      ∙ ap (λ xs. cond (next - here == 0) (starts_after next (differences xs)) (here ∷ starts_after next (differences xs))) (sym one)
    where
      up : here + (next - here) ≡ next
      up = omega arith

  rises : is_never_falling offsets ≡ true → here ≤ next
  unfolding here next
  rises e = let h = next_offset offsets row e (omega arith) in rw add-one h

  -- a row without a value
  module _ (same : get_or offsets (row + 1) 0 ≡ get_or offsets row 0) where
    level : (next - here == 0) ≡ true
    unfolding here next
    level = eq-eqb (next - here) 0 (omega arith)

    pub rows-without : rows_left offsets row ≡ rows_left offsets (row + 1)
    rows-without = rows-step ∙ ap (λ b. cond (not b) (row ∷ rows_left offsets (row + 1)) (rows_left offsets (row + 1))) level

    pub starts-without : starts_left offsets row ≡ starts_left offsets (row + 1)
    unfolding here next
    starts-without =
        starts-step (omega arith)
        ∙ ap (λ b. cond b (starts_left offsets (row + 1)) (here ∷ starts_left offsets (row + 1))) level

  -- a row with values
  module _ (e : is_never_falling offsets ≡ true) (other : get_or offsets (row + 1) 0 ≡ get_or offsets row 0 → ⊥) where
    above : (next - here == 0) ≡ false
    unfolding here next
    above = let h = rises e in ne_eqb (next - here) 0 (λ k. other (omega arith))

    -- a row whose next offset is another has values, and comes before the rows behind it
    pub rows-with : rows_left offsets row ≡ row ∷ rows_left offsets (row + 1)
    rows-with = rows-step ∙ ap (λ b. cond (not b) (row ∷ rows_left offsets (row + 1)) (rows_left offsets (row + 1))) above

    -- a row whose next offset is another adds its own start to those behind it
    pub starts-with : starts_left offsets row ≡ get_or offsets row 0 ∷ starts_left offsets (row + 1)
    unfolding here next
    starts-with = starts-step (rises e) ∙ ap (λ b. cond b (starts_left offsets (row + 1)) (here ∷ starts_left offsets (row + 1))) above

-- ---- the first row, and the last offset

-- at the first row all is to come
pub runs-none : (offsets : List ℕ) → get_or offsets 0 0 ≡ 0
    → (rows_left offsets 0 ≡ rows_with_value (differences offsets))
    × (starts_left offsets 0 ≡ starts_of (differences offsets))
unfolding starts_of
runs-none offsets e = (sym (rows_with_value-from (differences offsets)), ap (λ n. starts_after n (differences offsets)) e)
