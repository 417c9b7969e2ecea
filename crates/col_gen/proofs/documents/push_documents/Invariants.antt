use Rattle.std.proofs.Common.{◌-◌}
use Rattle.col_program.specs.GenScript.{docs_lines}
use Rattle.col_gen.proofs.AddedLemmas.{Rest}
use Rattle.col_gen.proofs.documents.push_documents.Given as goal

abbrev pub invariant-loop-document : goal.invariant-loop-document
invariant-loop-document l =
    Rest l.initial.out.items (docs_lines l.documents 0 l.initial.draws) l.out.items
    (docs_lines (l.documents - l.document) l.document l.draws)
