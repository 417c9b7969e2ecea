use Rattle.std.proofs.Common.{[], arith}
use Rattle.col_program.specs.Report.{question_line}
use Rattle.col_questions.specs.Questions.{question_of}
use Rattle.col_print.proofs.PutsLemmas.{puts_then}
use Rattle.col_report.proofs.PutLemmas.{bare-lines, lines-put, printed, puts-no_lines}
use Rattle.col_report.proofs.ReportLemmas.{line-more, line-all}
use Rattle.col_report.proofs.questions.put_questions.Goals as goal

pub loop-question-init : goal.loop-question-init
loop-question-init g c = λ t are. puts-no_lines _

pub loop-question-preserved : goal.loop-question-preserved
loop-question-preserved g c = λ t are.
    lines-put _ _ _ _ (line-more (λ q. question_line t c.args.short (question_of q)) [] _ _ c.args.questions.now
    c.loop-question.question-index c.question-item.result (omega arith) c.question-item.is (printed [] _) (printed _ _))
    (puts_then _ _ _ _ _ (bare-lines _ _ _ (c.loop-question.invariant t are))
    (bare-lines _ _ _ (c.in_ok-put_question.ensures t are)))

pub returns : goal.returns
returns g c = λ t are.
    lines-put _ _ _ _ (line-all (λ q. question_line t c.args.short (question_of q)) [] _ c.args.questions.now
    c.loop-question.question-index (omega arith) (printed [] _)) (bare-lines _ _ _ (c.loop-question.invariant t are))
