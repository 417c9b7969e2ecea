use Rattle.std.proofs.Common.{◌-◌}
use Rattle.col_numbers.specs.Readers.{list_of}
use Rattle.col_index.specs.RowLows.{IsClose}
use Rattle.col_index.proofs.row_lows.rank_by_lows.Given as goal

abbrev pub invariant-loop-high : goal.invariant-loop-high
invariant-loop-high l = IsClose (list_of l.rows) l.row l.low l.high

abbrev pub decreases-loop-high : goal.decreases-loop-high
decreases-loop-high l = l.high - l.low

abbrev pub invariant-loop-low : goal.invariant-loop-low
invariant-loop-low l = IsClose (list_of l.rows) l.row l.low l.high

abbrev pub decreases-loop-low : goal.decreases-loop-low
decreases-loop-low l = l.high - l.low
