use Rattle.col_report.proofs.PutLemmas.{bare-lines, from_nothing}
use Rattle.col_report.proofs.report.answers_of.Goals as goal

pub returns : goal.returns
returns g c = λ t are.
    c.into_bytes.ensures _ (from_nothing _ _ _ _ _ c.new-text.ensures (bare-lines _ _ _ (c.in_ok-put_questions.ensures t are)))
