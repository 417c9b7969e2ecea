use Rattle.std.proofs.Common.{◌≡◌, ◌-◌, ◌≤◌, ◌++◌, length, take}
use Rattle.col_compact.proofs.compact_space.take_block.Given as goal

abbrev pub invariant-loop-taken : goal.invariant-loop-taken
invariant-loop-taken g l = record {
  stands : g.I.Iterable.stands l.vals l.walk;
  within : l.taken ≤ length l.block;
  whole : take l.taken l.block ++ g.I.Iterable.left l.vals l.walk ≡ g.I.Iterable.left l.vals l.initial.walk;
}

abbrev pub decreases-loop-taken : goal.decreases-loop-taken
decreases-loop-taken g l = length l.block - l.taken
