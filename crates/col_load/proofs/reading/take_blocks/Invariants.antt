use Rattle.col_load.proofs.ReadLemmas.{AreRead, work_left}
use Rattle.col_load.proofs.reading.take_blocks.Given as goal

-- the lines of what was read were taken, but for the one that is begun
abbrev pub invariant-reads : goal.invariant-reads
invariant-reads g l =
    AreRead (g.S.Source.left l.initial.source) (g.S.Source.left l.source) (g.S.Source.faults l.initial.source)
    (g.S.Source.faults l.source) l.initial.loader l.loader l.held.items

abbrev pub decreases-reads : goal.decreases-reads
decreases-reads g l = work_left l.loader l.held.items
