use Rattle.std.proofs.Common.{◌-◌, length}
use Rattle.col_codecs.proofs.PackingLemmas.{IsTaken}
use Rattle.col_codecs.proofs.packing.take_block.Given as goal

abbrev pub invariant-loop-taken : goal.invariant-loop-taken
invariant-loop-taken g l = record {
  stands : g.I.Iterable.stands l.vals l.at;
  taken : IsTaken (g.I.Iterable.left l.vals l.initial.at) l.block l.taken (g.I.Iterable.left l.vals l.at);
}

abbrev pub decreases-loop-taken : goal.decreases-loop-taken
decreases-loop-taken g l = length l.block - l.taken
