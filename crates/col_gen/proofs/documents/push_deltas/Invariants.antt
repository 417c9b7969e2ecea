use Rattle.std.proofs.Common.{◌-◌}
use Rattle.col_program.specs.GenScript.{delta_lines}
use Rattle.col_gen.proofs.AddedLemmas.{Rest}
use Rattle.col_gen.proofs.documents.push_deltas.Given as goal

abbrev pub invariant-loop-delta : goal.invariant-loop-delta
invariant-loop-delta l =
    Rest l.initial.out.items (delta_lines l.document l.deltas l.initial.draws) l.out.items
    (delta_lines l.document (l.deltas - l._delta) l.draws)
