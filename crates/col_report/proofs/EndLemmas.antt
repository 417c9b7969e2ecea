-- Where the values of rows with a value end.
use Rattle.std.proofs.Common.{◌≡◌, ◌∙◌, ℕ, zero, suc, ◌+◌, ◌<◌, ◌≤◌, ◌^◌, not, cond, List, [], ◌∷◌, length, sum, drop, replicate, slice_get, Some, None, refl, sym, ap, subst, inr, add-one, arith}
use Rattle.std.specs.List.{range_with_len}
use Rattle.std.proofs.lemmas.Bool.{ne_eqb}
use Rattle.std.proofs.lemmas.List.{drop_more}
use Rattle.std.proofs.lemmas.List.Sums.{sum_by-cons}
use Rattle.std.proofs.lemmas.List.FromFn.{length-range_with_len}
use Rattle.std.proofs.lemmas.Option.{slice_get_within, get_or_from_slice_get}
use Rattle.col_model.specs.Index.{RowSet, set_counts}
use Rattle.col_model.specs.Positions.{rank, rows_with_value, starts_after, starts_of}
use Rattle.col_index.specs.Sets.{AreRows}
use Rattle.col_index.specs.Walked.{IsHint32}
use Rattle.col_index.proofs.RankLaws.{rows_rise, rank-at, slice_get-none}
use Rattle.col_index.proofs.RowsLaws.{rows_from, rows_with_value-from}
use Rattle.col_index.proofs.SpreadLaws.{spread_starts}
use Rattle.col_index.proofs.CountLaws.{set_spread, set_counts-rows}
use Rattle.col_index.proofs.IndexedLaws.{set_of_counts, counts-are_rows}

-- from a position on, where the values of each row with a value end
abbrev pub ends_from : ℕ → List ℕ → List ℕ
ends_from start [] = []
ends_from start (zero ∷ cs) = ends_from start cs
ends_from start (suc c ∷ cs) = (start + suc c) ∷ ends_from (start + suc c) cs

-- each end is behind the one before it, and none is past so many values
abbrev pub Climb : ℕ → List ℕ → ℕ → Type 0
Climb start [] n = Unit {0}
Climb start (e ∷ ends) n = (start < e) × (e ≤ n) × Climb e ends n

-- starts are the first of them and the ends
pub starts-ends : (start : ℕ) (cs : List ℕ) → starts_after start cs ≡ start ∷ ends_from start cs
starts-ends start [] = refl
starts-ends start (zero ∷ cs) = starts-ends (start + 0) cs ∙ ap (λ s. s ∷ ends_from s cs) (omega arith)
starts-ends start (suc c ∷ cs) =
    ap (λ b. cond b (starts_after (start + suc c) cs) (start ∷ starts_after (start + suc c) cs)) (ne_eqb (suc c) 0 (λ e. omega arith))
    ∙ ap (λ later. start ∷ later) (starts-ends (start + suc c) cs)

-- the ends climb up to the sum
pub ends-climb : (start n : ℕ) (cs : List ℕ) → start + sum cs ≤ n → Climb start (ends_from start cs) n
ends-climb start n [] h = tt
ends-climb start n (zero ∷ cs) h = ends-climb start n cs (omega (arith, h, sum_by-cons (λ x. x) 0 cs))
ends-climb start n (suc c ∷ cs) h =
    let whole = sum_by-cons (λ x. x) (suc c) cs in
    (omega arith, omega (arith, h, whole), ends-climb (start + suc c) n cs (omega (arith, h, whole)))

-- the first of what is left behind a place stands there
pub row-step : (rows : List ℕ) (place row : ℕ) (later : List ℕ) → drop place rows ≡ row ∷ later
    → (slice_get rows place ≡ Some row) × (later ≡ drop (place + 1) rows)
row-step [] zero row later e = absurd (cc e)
row-step [] (suc place) row later e = absurd (cc e)
row-step (x ∷ rows) zero row later e = (ap (λ l. slice_get l 0) e, sym (ap (drop 1) e))
row-step (x ∷ rows) (suc place) row later e =
    let more = row-step rows place row later e in
    (more.0, more.1 ∙ ap (λ k. drop k (x ∷ rows)) (let same : suc (place + 1) ≡ suc place + 1 = omega arith in same))

-- an end of the starts is the next of the ends from its place on
pub ends-at : (cs : List ℕ) (place end : ℕ) → slice_get (starts_of cs) (place + 1) ≡ Some end
    → drop place (ends_from 0 cs) ≡ end ∷ drop (place + 1) (ends_from 0 cs)
unfolding starts_of
ends-at cs place end ended =
    let ends = ends_from 0 cs in
    let at : slice_get ends place ≡ Some end =
    ap (slice_get (0 ∷ ends)) (sym (add-one place)) ∙ ap (λ ss. slice_get ss (place + 1)) (sym (starts-ends 0 cs)) ∙ ended in
    drop_more ends place end (slice_get_within ends place end at)
    ∙ ap (λ e. e ∷ drop (place + 1) ends) (get_or_from_slice_get ends place end end at)

-- ---- the end of a row with a rank

-- there are as many ends as rows with a value
length-ends : (a start : ℕ) (cs : List ℕ) → length (ends_from start cs) ≡ length (rows_from a cs)
length-ends a start [] = refl
length-ends a start (zero ∷ cs) = length-ends (suc a) start cs
length-ends a start (suc c ∷ cs) =
    ap suc (length-ends (suc a) (start + suc c) cs)
    ∙ ap (λ b. length (cond (not b) (a ∷ rows_from (suc a) cs) (rows_from (suc a) cs))) (sym (ne_eqb (suc c) 0 (λ e. omega arith)))

module _ (cs : List ℕ) (place row : ℕ) (there : slice_get (rows_with_value cs) place ≡ Some row) where
  -- it has an end
  pub ends-there : slice_get (starts_of cs) (place + 1) ≡ None → ⊥
  unfolding starts_of
  ends-there none =
      omega (
        arith,
        slice_get-none (starts_of cs) (place + 1) none,
        ap length (starts-ends 0 cs),
        length-ends 0 0 cs,
        ap length (rows_with_value-from cs),
        slice_get_within (rows_with_value cs) place row there,
      )

  -- it can be looked for from itself on
  pub hint-there : row < 2 ^ 32 → IsHint32 (rows_with_value cs) row place
  hint-there small =
      let rows = rows_with_value cs in
      let is = get_or_from_slice_get rows place row 0 there in
      record {
        told = inr (ap (rank rows) (sym is)
            ∙ rank-at rows place (rows_rise (set_of_counts cs) (counts-are_rows cs)) (slice_get_within rows place row there));
        small = small;
      }

-- where each row has one value, it ends behind the rank
ends-ones : (start n k : ℕ) → k < n → slice_get (ends_from start (replicate n 1)) k ≡ Some (start + k + 1)
ends-ones start zero k h = absurd (omega arith)
ends-ones start (suc n) zero h = ap Some (omega arith)
ends-ones start (suc n) (suc k) h = ends-ones (start + 1) n k (omega arith) ∙ ap Some (omega arith)

starts-ones : (n k : ℕ) → k < n → slice_get (starts_after 0 (replicate n 1)) (k + 1) ≡ Some (k + 1)
starts-ones n k h =
    ap (λ ss. slice_get ss (k + 1)) (starts-ends 0 (replicate n 1))
    ∙ ap (slice_get (0 ∷ ends_from 0 (replicate n 1))) (add-one k)
    ∙ ends-ones 0 n k h
    ∙ ap Some (omega arith)

-- so it is of a set's rows
pub end-of_set : (s : RowSet) → AreRows s → (place row : ℕ) → slice_get (rows_with_value (set_counts s)) place ≡ Some row
    → slice_get (starts_of (set_counts s)) (place + 1) ≡ Some (place + 1)
unfolding starts_of
end-of_set s a place row there =
    ap (λ ss. slice_get ss (place + 1)) (spread_starts 0 (set_spread s a))
    ∙ starts-ones (length s.rows) place
    (subst (λ rows. place < length rows) (set_counts-rows s a) (slice_get_within _ place row there))

-- ---- rows of one value each, and rows of none

rows-ones : (a n : ℕ) → rows_from a (replicate n 1) ≡ range_with_len a n
rows-ones a zero = refl
rows-ones a (suc n) = ap (λ rows. a ∷ rows) (rows-ones (suc a) n ∙ ap (λ b. range_with_len b n) (sym (add-one a)))

-- where each row has one value, all rows have
pub rows-each : (n : ℕ) → range_with_len 0 n ≡ rows_with_value (replicate n 1)
rows-each n = sym (rows_with_value-from (replicate n 1) ∙ rows-ones 0 n)

-- and so it is of these
pub end-of_each : (n place row : ℕ) → slice_get (rows_with_value (replicate n 1)) place ≡ Some row
    → slice_get (starts_of (replicate n 1)) (place + 1) ≡ Some (place + 1)
unfolding starts_of
end-of_each n place row there =
    let long = ap length (sym (rows-each n)) ∙ length-range_with_len 0 n in
    starts-ones n place (subst (λ k. place < k) long (slice_get_within _ place row there))
