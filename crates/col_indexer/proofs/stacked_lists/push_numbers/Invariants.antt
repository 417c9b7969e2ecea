use Rattle.std.proofs.Common.{◌≡◌, ◌+◌, ◌++◌}
use Rattle.std.specs.List.{range_with_len}
use Rattle.col_indexer.proofs.stacked_lists.push_numbers.Given as goal

-- so many numbers were appended
abbrev pub invariant-loop-number : goal.invariant-loop-number
invariant-loop-number l = l.starts.items ≡ l.initial.starts.items ++ range_with_len (l.before + 1) l.number
