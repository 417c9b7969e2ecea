use Rattle.std.proofs.Common.{[], ◌∷◌, ◌∙◌, subst}
use Rattle.col_report.specs.Printed.{PutsLines}
use Rattle.col_report.specs.Reported.{docs_line}
use Rattle.col_report.proofs.answers.put_answer_line.Goals as goal

pub returns : goal.returns
returns g c = λ t are.
    subst (λ docs. PutsLines (g.O.Out.seen c.args.out.now) (g.O.Out.seen c.put_docs_line.new.out)
    (docs_line c.args.short docs ∷ []))
    (c.deref.ensures.value ∙ c.in_ok-docs.ensures t are) c.put_docs_line.ensures
