use Rattle.std.proofs.Common.{length}
use Rattle.col_load.proofs.BlockLemmas.{AreTaken}
use Rattle.col_load.proofs.lines.take_whole_lines.Given as goal

-- some lines were taken, and the bytes behind them are left
abbrev pub invariant-lines : goal.invariant-lines
invariant-lines l = AreTaken l.fn.bytes l.left l.initial.loader l.loader

abbrev pub decreases-lines : goal.decreases-lines
decreases-lines l = length l.left
