use Rattle.std.proofs.Common.{◌≡◌, ℕ, ◌<◌, ◌≤◌, List, get_or, bit_and}
use Rattle.col_query.proofs.words.and_words.Given as goal

-- The words that were passed keep the bits of the others, the rest is as it was.
pub record AreBoth (old others new : List ℕ) (passed : ℕ) : Type 0 where
  pub before : (i : ℕ) → i < passed → get_or new i 0 ≡ bit_and (get_or old i 0) (get_or others i 0)
  pub behind : (i : ℕ) → passed ≤ i → get_or new i 0 ≡ get_or old i 0

abbrev pub invariant-loop-at : goal.invariant-loop-at
invariant-loop-at l = AreBoth l.initial.words l.others l.words l.at
