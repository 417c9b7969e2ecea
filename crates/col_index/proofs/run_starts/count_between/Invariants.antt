use Rattle.std.proofs.Common.{◌+◌, ◌-◌}
use Rattle.col_numbers.specs.Readers.{list_of}
use Rattle.col_index.specs.Search.{IsNarrowed}
use Rattle.col_index.proofs.run_starts.count_between.Given as goal

abbrev pub invariant-loop-low : goal.invariant-loop-low
invariant-loop-low l = IsNarrowed (list_of l.rows) (l.row_id + 1) l.low l.high

abbrev pub decreases-loop-low : goal.decreases-loop-low
decreases-loop-low l = l.high - l.low
