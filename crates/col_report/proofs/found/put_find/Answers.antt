use Rattle.std.proofs.Common.{[], ◌∷◌, subst, ◌∙◌}
use Rattle.col_questions.specs.Finds as finds
use Rattle.col_program.specs.Report.{docs_data}
use Rattle.col_report.specs.Printed.{PutsLines}
use Rattle.col_report.specs.Reported.{find_line}
use Rattle.col_report.proofs.found.put_find.Goals as goal

pub returns : goal.returns
returns g c =
    subst (λ docs. PutsLines (g.O.Out.seen c.args.out.now) (g.O.Out.seen c.put_found.new.out)
    (find_line (finds.find_of c.args.find.now) (docs_data c.args.short docs) ∷ []))
    (c.deref.ensures.value ∙ c.in-Ok.ensures) c.put_found.ensures
