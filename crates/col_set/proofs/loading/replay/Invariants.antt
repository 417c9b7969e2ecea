use Rattle.std.proofs.Common.{◌-◌}
use Rattle.col_set.proofs.HeldLemmas.{Replays}
use Rattle.col_set.proofs.loading.replay.Given as goal

abbrev pub invariant-loop-found : goal.invariant-loop-found
invariant-loop-found g l = Replays (g.D.Disk.seen l.fn.disk) (g.D.Disk.seen l.disk) l.gate l.fn.segments l.segments

abbrev pub decreases-loop-found : goal.decreases-loop-found
decreases-loop-found g l = (g.D.Disk.seen l.disk).size - l.gate
