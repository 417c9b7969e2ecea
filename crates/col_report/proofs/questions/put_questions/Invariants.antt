use Rattle.std.proofs.Common.{map, take}
use Rattle.col_model.specs.Table.{Table}
use Rattle.col_opened.specs.Opened.{AreOpen}
use Rattle.col_program.specs.Report.{question_line}
use Rattle.col_questions.specs.Questions.{question_of}
use Rattle.col_report.specs.Printed.{PutsLines}
use Rattle.col_report.proofs.questions.put_questions.Given as goal

abbrev pub invariant-loop-question : goal.invariant-loop-question
invariant-loop-question g l =
    (t : Table) → AreOpen l.reader.keys t l.columns
    → PutsLines (g.O.Out.seen l.initial.out) (g.O.Out.seen l.out)
    (map (λ q. question_line t l.short (question_of q)) (take l.question-index l.questions))
