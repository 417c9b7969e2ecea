use Rattle.std.proofs.Common.{◌≡◌, ◌<◌, ◌^◌, ◌++◌, length}
use Rattle.col_compact.proofs.compressor.collect_values.Given as goal

abbrev pub invariant-loop-value : goal.invariant-loop-value
invariant-loop-value g l = record {
  stands : g.I.Iterable.stands l.vals l.at;
  whole : l.values.items ++ g.I.Iterable.left l.vals l.at ≡ g.I.Iterable.items l.vals;
  few : length l.values.items < 2 ^ 32;
}

abbrev pub decreases-loop-value : goal.decreases-loop-value
decreases-loop-value g l = length (g.I.Iterable.left l.vals l.at)
