-- Ranks in rows that stand in runs.
use Rattle.std.proofs.Common.{◌≡◌, ℕ, zero, suc, ◌+◌, ◌-◌, ◌<◌, ◌≤◌, ◌||◌, nat_eq, true, false, min, List, [], ◌∷◌, ◌++◌, length, take, sum, get_or, refl, sym, ap, ◌∙◌, inl, inr, arith}
use Rattle.std.specs.List.{range_with_len}
use Rattle.std.proofs.lemmas.Bool.{true≢false, cases_lt, or_left, or_right, eq-eqb, ne_eqb, lt-ltb, le-ltb}
use Rattle.col_model.specs.Index.{run_rows}
use Rattle.col_model.specs.Positions.{rank}
use Rattle.col_model.proofs.ListLaws.{sum-cons}
use Rattle.col_model.proofs.RowRunTests.{runs_from, first_run, run_in_front}
use Rattle.col_index.specs.Runs.{IsInPart}
use Rattle.col_index.specs.Sets.{holds}
use Rattle.col_index.proofs.HeldLaws.{holds-none}
use Rattle.col_index.proofs.RankLaws.{rank-cons_below, rank-cons_above, rank-none, rank-le-length, all_at}
use Rattle.col_index.proofs.RunRowLemmas.{none_before, rows_rise_from, starts_rise_from}

-- ---- a run in front of other rows

-- so many of a run stand before a row
pub range-rank : (s l row : ℕ) (rows : List ℕ) → rank (range_with_len s l ++ rows) row ≡ min (row - s) l + rank rows row
range-rank s zero row rows = omega arith
range-rank s (suc l) row rows = elim (cases_lt s row) [
  | inl below ↦ rank-cons_below s (range_with_len (s + 1) l ++ rows) row below ∙ omega (arith, range-rank (s + 1) l row rows)
  | inr above ↦
      rank-cons_above s (range_with_len (s + 1) l ++ rows) row above
      ∙ omega (arith, range-rank (s + 1) l row rows)
]

-- a run has the rows from its start on that are fewer than its length behind it
pub range-held : (s l row : ℕ) (rows : List ℕ) → s ≤ row → row - s < l → holds (range_with_len s l ++ rows) row ≡ true
range-held s zero row rows h k = absurd (omega arith)
range-held s (suc l) row rows h k = elim (cases_lt s row) [
  | inl below ↦
      or_right (nat_eq s row) (holds (range_with_len (s + 1) l ++ rows) row)
      (range-held (s + 1) l row rows (omega arith) (omega arith))
  | inr above ↦
      or_left (nat_eq s row) (holds (range_with_len (s + 1) l ++ rows) row)
      (eq-eqb s row (omega arith))
]

-- it has no row behind its end
pub range-behind : (s l row : ℕ) (rows : List ℕ) → s ≤ row → l ≤ row - s → holds (range_with_len s l ++ rows) row ≡ holds rows row
range-behind s zero row rows h k = refl
range-behind s (suc l) row rows h k =
    ap (λ b. b || holds (range_with_len (s + 1) l ++ rows) row) (ne_eqb s row (λ e. omega arith))
    ∙ range-behind (s + 1) l row rows (omega arith) (omega arith)

-- ---- rows of runs

-- a row before all runs has none before it, and isn't in one
module _ (n next row : ℕ) (ss ls : List ℕ) (e : runs_from n next ss ls ≡ true) (before : row < next) where
  pub before_all-rank : rank (run_rows ss ls) row ≡ 0
  before_all-rank = rank-none (run_rows ss ls) row (none_before n next row (run_rows ss ls) (omega arith) (rows_rise_from n next ss ls e))

  pub before_all-held : holds (run_rows ss ls) row ≡ false
  before_all-held =
      holds-none (run_rows ss ls) row
      (none_before n next (suc row) (run_rows ss ls) (omega arith) (rows_rise_from n next ss ls e))

-- a row before the first start
pub before_first : (n next row : ℕ) (ss ls : List ℕ) → runs_from n next ss ls ≡ true → 0 ≡ rank ss (row + 1)
    → IsInPart (run_rows ss ls) row 0 row 0
before_first n next row [] [] e h = record { count = omega arith; held = sym (le-ltb row 0 (omega arith)) }
before_first n next row [] (l ∷ ls) e h = absurd (true≢false (sym e))
before_first n next row (s ∷ ss) [] e h = absurd (true≢false (sym e))
before_first n next row (s ∷ ss) (l ∷ ls) e h = elim (cases_lt s (row + 1)) [
  | inl below ↦ absurd (omega (arith, rank-cons_below s ss (row + 1) below))
  | inr above ↦ from_start above
]
  where
    from_start : row + 1 ≤ s → IsInPart (run_rows (s ∷ ss) (l ∷ ls)) row 0 row 0
    from_start above =
        let r = first_run n next s l ss ls e in
        let here = run_in_front n s s l ss ls (record { from = omega arith; some = r.some; within = r.within; rest = r.rest }) in
        record {
          count = before_all-rank n s row (s ∷ ss) (l ∷ ls) here (omega arith) ∙ omega arith;
          held = before_all-held n s row (s ∷ ss) (l ∷ ls) here (omega arith) ∙ sym (le-ltb row 0 (omega arith));
        }

-- behind a first run whose rows are all before a row, others are looked at
part_behind : (s l row before inside len : ℕ) (rows : List ℕ) → s ≤ row → l ≤ row - s → IsInPart rows row before inside len
    → IsInPart (range_with_len s l ++ rows) row (l + before) inside len
part_behind s l row before inside len rows h k p = record {
  count = range-rank s l row rows ∙ omega (arith, p.count);
  held = range-behind s l row rows h k ∙ p.held;
}

-- in front of rows behind a row, the first run is looked at alone
part_here : (s l row : ℕ) (rows : List ℕ) → s ≤ row → IsInPart rows row 0 row 0 → IsInPart (range_with_len s l ++ rows) row 0 (row - s) l
part_here s l row rows h p = elim (cases_lt (row - s) l) [
  | inl inside ↦ record {
    count = range-rank s l row rows ∙ omega (arith, p.count);
    held = range-held s l row rows h inside ∙ sym (lt-ltb (row - s) l inside);
  }
  | inr behind ↦ record {
    count = range-rank s l row rows ∙ omega (arith, p.count);
    held = range-behind s l row rows h behind ∙ p.held ∙ le-ltb row 0 (omega arith) ∙ sym (le-ltb (row - s) l behind);
  }
]

-- where a start isn't behind a row, the run with it is counted
first_counted : (n next row k s l : ℕ) (ss ls : List ℕ) → runs_from n next (s ∷ ss) (l ∷ ls) ≡ true
    → suc k ≡ rank (s ∷ ss) (row + 1) → (s ≤ row) × (k ≡ rank ss (row + 1))
first_counted n next row k s l ss ls e h = elim (cases_lt s (row + 1)) [
  | inl below ↦ (omega arith, omega (arith, rank-cons_below s ss (row + 1) below))
  | inr above ↦
      let r = first_run n next s l ss ls e in
      let starts = starts_rise_from n (s + l + 1) ss ls r.rest in
      let none = rank-none ss (row + 1) (none_before n (s + l + 1) (row + 1) ss (omega arith) starts) in
      absurd (omega (arith, rank-cons_above s ss (row + 1) above, none))
]

-- the runs start where they begin, or behind
pub start_from : (n next k : ℕ) (ss ls : List ℕ) → runs_from n next ss ls ≡ true → k < length ss → next ≤ get_or ss k 0
start_from n next k ss ls e h = all_at next ss k (none_before n next next ss (omega arith) (starts_rise_from n next ss ls e)) h

-- a row is in the run k, or behind it and before the next
pub in_run : (n next row k : ℕ) (ss ls : List ℕ) → runs_from n next ss ls ≡ true → suc k ≡ rank ss (row + 1)
    → (get_or ss k 0 ≤ row) × IsInPart (run_rows ss ls) row (sum (take k ls)) (row - get_or ss k 0) (get_or ls k 0)
in_run n next row k [] ls e h = absurd (omega arith)
in_run n next row k (s ∷ ss) [] e h = absurd (true≢false (sym e))
in_run n next row zero (s ∷ ss) (l ∷ ls) e h =
    let r = first_run n next s l ss ls e in
    let counted = first_counted n next row zero s l ss ls e h in
    (counted.0, part_here s l row (run_rows ss ls) counted.0 (before_first n (s + l + 1) row ss ls r.rest counted.1))
in_run n next row (suc k) (s ∷ ss) (l ∷ ls) e h =
    let r = first_run n next s l ss ls e in
    let counted = first_counted n next row (suc k) s l ss ls e h in
    let later = in_run n (s + l + 1) row k ss ls r.rest counted.1 in
    let start = start_from n (s + l + 1) k ss ls r.rest (omega (arith, counted.1, rank-le-length ss (row + 1))) in
    let passed : l ≤ row - s = omega (arith, later.0, start) in
    let part = part_behind s l row (sum (take k ls)) (row - get_or ss k 0) (get_or ls k 0) (run_rows ss ls) counted.0 passed later.1 in
    (later.0, rw (sum-cons l (take k ls)) part)
