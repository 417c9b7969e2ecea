use Rattle.std.proofs.Common.{take}
use Rattle.std.specs.List.{AllByRecursion}
use Rattle.col_model.specs.Sound.{IsSound}
use Rattle.col_segments.specs.Segments.{HeldTable}
use Rattle.col_segments.proofs.held.tables_are_sound.Given as goal

abbrev pub invariant-loop-segment : goal.invariant-loop-segment
invariant-loop-segment l = AllByRecursion (λ (h : HeldTable). IsSound h.table) (take l.segment-index l.held)
