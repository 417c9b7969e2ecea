use Rattle.std.proofs.Common.{◌≡◌, ℕ, ◌<◌, ◌≤◌, List, get_or, bit_xor}
use Rattle.col_query.proofs.words.turn_words.Given as goal

-- The words that were passed are turned over, the others are as they were.
pub record AreTurned (old new : List ℕ) (passed : ℕ) : Type 0 where
  pub before : (i : ℕ) → i < passed → get_or new i 0 ≡ bit_xor (get_or old i 0) 18446744073709551615
  pub behind : (i : ℕ) → passed ≤ i → get_or new i 0 ≡ get_or old i 0

abbrev pub invariant-loop-word : goal.invariant-loop-word
invariant-loop-word l = AreTurned l.initial.words l.words l.word-index
