use Rattle.std.proofs.Common.{take}
use Rattle.col_query.specs.Named.{AreMarks}
use Rattle.col_query.proofs.named.mark_all.Given as goal

-- the entries that the steps so far name are marked
abbrev pub invariant-loop-step : goal.invariant-loop-step
invariant-loop-step g l = record {
  marks : AreMarks (take l.step-index l.steps) l.reader.keys.entries l.named;
}
