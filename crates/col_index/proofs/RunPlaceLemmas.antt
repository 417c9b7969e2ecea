-- Rows that stand behind as many starts of runs.
use Rattle.std.proofs.Common.{◌≡◌, ℕ, ◌+◌, ◌-◌, ◌^◌, ◌<◌, ◌≤◌, true, List, length, get_or, min, sym, ap, subst, ◌∙◌, inl, inr, arith}
use Rattle.std.proofs.lemmas.Bool.{cases_lt}
use Rattle.col_common.specs.Ascending.{is_rising}
use Rattle.col_model.specs.Index.{RowSet}
use Rattle.col_model.specs.Positions.{rank}
use Rattle.col_index.specs.Sets.{AreRows}
use Rattle.col_index.proofs.RankLaws.{narrowed-rank}
use Rattle.col_index.proofs.RankedLemmas.{rank_past}
use Rattle.col_index.proofs.SearchLemmas.{rising_pair}

-- behind the greatest number of 32 bits no row stands
pub rank_behind : (s : RowSet) (row up : ℕ) → AreRows s → s.num_rows < 2 ^ 32 → up ≡ min (row + 1) (2 ^ 32 - 1)
    → rank s.rows up ≡ rank s.rows (row + 1)
rank_behind s row up a small e = elim (cases_lt (row + 1) (2 ^ 32)) [
  | inl fits ↦ ap (rank s.rows) (omega arith)
  | inr over ↦ sym (rank_past s up a (omega arith)) ∙ rank_past s (row + 1) a (omega arith)
]

-- between the last start that is counted and the next one, as many are
pub same_count : (ss : List ℕ) (count row : ℕ) → is_rising ss ≡ true → count ≤ length ss
    → (0 < count → get_or ss (count - 1) 0 ≤ row) → (count < length ss → row < get_or ss count 0)
    → count ≡ rank ss (row + 1)
same_count ss count row e h behind before = narrowed-rank ss (row + 1) count (record {
  ordered = omega arith;
  within = h;
  below = λ i k. let last = behind (omega arith) in elim (cases_lt i (count - 1)) [
    | inl earlier ↦ let up = rising_pair ss i (count - 1) e earlier (omega arith) in omega arith
    | inr not_earlier ↦ let same : count - 1 ≡ i = omega arith in subst (λ j. get_or ss j 0 < row + 1) same (omega arith)
  ];
  above = λ i k l. let next = before (omega arith) in elim (cases_lt count i) [
    | inl later ↦ let up = rising_pair ss count i e later l in omega arith
    | inr not_later ↦ let same : count ≡ i = omega arith in subst (λ j. row + 1 ≤ get_or ss j 0) same (omega arith)
  ];
})
