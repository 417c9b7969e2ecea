use Rattle.std.proofs.Common.{◌≡◌, sum, take}
use Rattle.col_indexer.proofs.runs.sum_of.Given as goal

-- what the numbers so far come to
abbrev pub invariant-loop-number : goal.invariant-loop-number
invariant-loop-number l = l.total ≡ sum (take l.number-index l.numbers)
