use Rattle.std.proofs.Common.{◌≡◌}
use Rattle.col_codecs.specs.ColumnStats.{collected_of}
use Rattle.col_codecs.specs.OnLine.{values_on}
use Rattle.col_codecs.proofs.line_stats.collected.Given as goal

abbrev pub invariant-loop-x : goal.invariant-loop-x
invariant-loop-x l = l.collector ≡ collected_of (values_on l.line 0 l.x)
