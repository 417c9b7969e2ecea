use Rattle.std.proofs.Common.{slice_index}
use Rattle.col_numbers.specs.Readers.{list_of}
use Rattle.col_index.specs.Ranks.{IsTableOf}
use Rattle.col_index.proofs.run_starts.nexts_of.Given as goal

-- the starts so far
abbrev pub invariant-loop-at : goal.invariant-loop-at
invariant-loop-at l = IsTableOf (λ k. slice_index (list_of l.rows) k) l.at l.nexts.items
