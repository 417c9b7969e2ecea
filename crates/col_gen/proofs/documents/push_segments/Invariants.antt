use Rattle.std.proofs.Common.{◌-◌}
use Rattle.col_program.specs.GenScript.{segment_lines}
use Rattle.col_gen.proofs.AddedLemmas.{Rest}
use Rattle.col_gen.proofs.documents.push_segments.Given as goal

abbrev pub invariant-loop-segment : goal.invariant-loop-segment
invariant-loop-segment l =
    Rest l.initial.out.items (segment_lines l.segments l.documents l.initial.draws) l.out.items
    (segment_lines (l.segments - l._segment) l.documents l.draws)
