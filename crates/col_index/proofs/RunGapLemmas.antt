-- Ranks by how far rows in runs are above them.
use Rattle.std.proofs.Common.{◌≡◌, ℕ, ◌+◌, ◌-◌, ◌<◌, ◌≤◌, nat_lt, min, List, [], ◌∷◌, ◌++◌, length, get_or, refl, sym, ap, subst, ◌∙◌, inl, inr, arith}
use Rattle.std.proofs.lemmas.Bool.{cases_lt, lt-ltb, le-ltb}
use Rattle.std.proofs.lemmas.List.{get_or_append_left, get_or_at, length_push}
use Rattle.col_common.specs.Ascending.{differences}
use Rattle.col_model.specs.Index.{RowSet, run_rows}
use Rattle.col_model.specs.Positions.{rank}
use Rattle.col_index.specs.Runs.{AreSummedRuns, AreGaps, AreRunTables}
use Rattle.col_index.specs.Sets.{holds}
use Rattle.col_index.proofs.RankLaws.{rank-le-length}
use Rattle.col_index.proofs.RunHeldLemmas.{part_none, part_last, summed_long, summed_rise, summed_at}

-- ---- the gaps of runs, one behind another

-- those before a place
pub record GapsSoFar (starts before gaps : List ℕ) (at : ℕ) : Type 0 where
  pub sums : length before ≡ at
  pub long : length gaps ≡ at + 1
  pub first : get_or gaps 0 0 ≡ 0
  pub each : (k : ℕ) → k < at → get_or gaps (k + 1) 0 + get_or before k 0 ≡ get_or starts k 0

-- none yet
pub gaps_none : (starts before gaps : List ℕ) → before ≡ [] → gaps ≡ 0 ∷ [] → GapsSoFar starts before gaps 0
gaps_none starts before gaps b g = record {
  sums = ap length b;
  long = ap length g;
  first = ap (λ xs. get_or xs 0 0) g;
  each = λ k h. absurd (omega arith);
}

-- a sum that is pushed leaves those before it
kept : (starts before gaps new : List ℕ) (at total : ℕ) → GapsSoFar starts before gaps at → new ≡ before ++ total ∷ []
    → (k : ℕ) → k < at → get_or gaps (k + 1) 0 + get_or new k 0 ≡ get_or starts k 0
kept starts before gaps new at total s n k h =
    let same : get_or new k 0 ≡ get_or before k 0 =
    ap (λ xs. get_or xs k 0) n ∙ get_or_append_left before (total ∷ []) 0 k (omega (arith, s.sums)) in
    ap (λ m. get_or gaps (k + 1) 0 + m) same ∙ s.each k h

-- one more
pub gaps_more : (starts before gaps sums more : List ℕ) (at total gap : ℕ) → GapsSoFar starts before gaps at
    → sums ≡ before ++ total ∷ [] → more ≡ gaps ++ gap ∷ [] → gap + total ≡ get_or starts at 0
    → GapsSoFar starts sums more (at + 1)
gaps_more starts before gaps sums more at total gap s n m e = record {
  sums = ap length n ∙ length_push before total ∙ omega (arith, s.sums);
  long = ap length m ∙ length_push gaps gap ∙ omega (arith, s.long);
  first = ap (λ xs. get_or xs 0 0) m ∙ get_or_append_left gaps (gap ∷ []) 0 0 (omega (arith, s.long)) ∙ s.first;
  each = λ k h. elim (cases_lt k at) [
    | inl earlier ↦
        let front : get_or more (k + 1) 0 ≡ get_or gaps (k + 1) 0 =
        ap (λ xs. get_or xs (k + 1) 0) m ∙ get_or_append_left gaps (gap ∷ []) 0 (k + 1) (omega (arith, s.long)) in
        ap (λ j. j + get_or sums k 0) front ∙ kept starts before gaps sums at total s n k earlier
    | inr here ↦
        let same : at ≡ k = omega arith in
        let last : get_or more (at + 1) 0 ≡ gap =
        ap (λ xs. get_or xs (at + 1) 0) m ∙ get_or_at gaps gap [] 0 (at + 1) s.long in
        let total_is : get_or sums at 0 ≡ total = ap (λ xs. get_or xs at 0) n ∙ get_or_at before total [] 0 at s.sums in
        subst (λ j. get_or more (j + 1) 0 + get_or sums j 0 ≡ get_or starts j 0) same (omega (arith, last, total_is, e))
  ];
}

-- ---- ranks by them

module _ (s : RowSet) (before gaps : List ℕ) (r : AreSummedRuns s before) (g : AreGaps s.rows before gaps) (row count : ℕ)
    (h : count ≡ rank s.rows (row + 1)) (few : count ≤ length s.rows) where
  abbrev rows : List ℕ
  rows = run_rows s.rows (differences before)

  abbrev gap : ℕ
  gap = get_or gaps count 0

  abbrev upto : ℕ
  upto = get_or before count 0

  -- a row and its gap
  record IsBound : Type 0 where
    below : gap ≤ row
    count_is : rank rows row ≡ min (row - gap) upto
    held_is : holds rows row ≡ nat_lt (row - gap) upto

  bound_none : count ≡ 0 → IsBound
  bound_none none =
      let part = part_none s before r row (sym none ∙ h) in
      let zero_gap : gap ≡ 0 = ap (λ k. get_or gaps k 0) none ∙ g.first in
      let zero_sum : upto ≡ 0 = ap (λ k. get_or before k 0) none ∙ summed_at s before r 0 (omega arith) in
      record {
        below = omega arith;
        count_is = omega (arith, part.count);
        held_is = part.held ∙ le-ltb (row - 0) 0 (omega arith) ∙ sym (le-ltb (row - gap) upto (omega arith));
      }

  bound_some : 0 < count → IsBound
  bound_some some =
      let found = part_last s before r row count (get_or s.rows (count - 1) 0) some h few refl in
      let next : count ≡ count - 1 + 1 = omega arith in
      let here : gap ≡ get_or gaps (count - 1 + 1) 0 = ap (λ k. get_or gaps k 0) next in
      let apart = g.each (count - 1) (omega arith) in
      let rise = summed_rise s before r count some few in
      let start = get_or s.rows (count - 1) 0 in
      let sum = get_or before (count - 1) 0 in
      record {
        below = omega (arith, here, apart, found.0);
        count_is = omega (arith, here, apart, found.0, found.1.count, rise);
        held_is = found.1.held ∙ elim (cases_lt (row - start) (upto - sum)) [
          | inl near ↦ lt-ltb (row - start) (upto - sum) near ∙ sym (lt-ltb (row - gap) upto (omega (arith, here, apart, found.0, rise)))
          | inr far ↦ le-ltb (row - start) (upto - sum) far ∙ sym (le-ltb (row - gap) upto (omega (arith, here, apart, found.0, rise)))
        ];
      }

  bound : IsBound
  bound = elim (cases_lt 0 count) [ inl some ↦ bound_some some | inr none ↦ bound_none (omega arith) ]

  gap_below : gap ≤ row
  gap_below = bound.below

  -- the rank of a row, by the gap before the last run that starts at or before it
  gap_count : rank rows row ≡ min (row - gap) upto
  gap_count = bound.count_is

  -- and whether it has one
  gap_held : holds rows row ≡ nat_lt (row - gap) upto
  gap_held = bound.held_is

-- ---- what is read of the tables, by lists that are the same, for a row

module _ (s : RowSet) (before gaps : List ℕ) (t : AreRunTables s before gaps) (row count : ℕ) (h : count ≡ rank s.rows (row + 1)) where
  few_starts : count ≤ length s.rows
  few_starts = omega (arith, h, rank-le-length s.rows (row + 1))

  -- there is a sum
  pub read_within : (sums : List ℕ) → sums ≡ before → count < length sums
  read_within sums f = omega (arith, few_starts, summed_long s before t.summed, ap length f)

  -- a gap is no more than the row
  pub read_below : (gs : List ℕ) → gs ≡ gaps → get_or gs count 0 ≤ row
  read_below gs e =
      subst (λ xs. get_or xs count 0 ≤ row) (sym e) (gap_below s before gaps t.summed t.apart row count h few_starts)

  -- a gap and a sum give the row's rank
  pub read_count : (gs sums : List ℕ) → gs ≡ gaps → sums ≡ before
      → rank (run_rows s.rows (differences before)) row ≡ min (row - get_or gs count 0) (get_or sums count 0)
  read_count gs sums e f =
      gap_count s before gaps t.summed t.apart row count h few_starts
      ∙ ap (λ xs. min (row - get_or xs count 0) (get_or before count 0)) (sym e)
      ∙ ap (λ xs. min (row - get_or gs count 0) (get_or xs count 0)) (sym f)

  -- and whether it has one
  pub read_held : (gs sums : List ℕ) → gs ≡ gaps → sums ≡ before
      → holds (run_rows s.rows (differences before)) row ≡ nat_lt (row - get_or gs count 0) (get_or sums count 0)
  read_held gs sums e f =
      gap_held s before gaps t.summed t.apart row count h few_starts
      ∙ ap (λ xs. nat_lt (row - get_or xs count 0) (get_or before count 0)) (sym e)
      ∙ ap (λ xs. nat_lt (row - get_or gs count 0) (get_or xs count 0)) (sym f)
