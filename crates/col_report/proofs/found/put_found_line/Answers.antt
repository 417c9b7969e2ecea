use Rattle.std.proofs.Common.{[], ◌∷◌, ◌∙◌, Some, None, subst}
use Rattle.std.proofs.lemmas.Result.{on_ok_weaker}
use Rattle.col_dynamic.specs.Dynamic.{content_of}
use Rattle.col_questions.specs.Finds as finds
use Rattle.col_report.specs.Printed.{PutsLines}
use Rattle.col_report.proofs.FoundLemmas.{line-found}
use Rattle.col_report.proofs.found.put_found_line.Goals as goal

pub put_find-requires : goal.put_find-requires
put_find-requires g c = c.in-Some.ensures.kind ∙ c.column_type.ensures

pub returns-in-Some : goal.returns-in-Some
returns-in-Some g c = λ t are.
    let line = line-found t c.args.short (finds.find_of c.args.find.now) (Some (content_of c.in-Some.column.now)) _ _
    c.deref.ensures c.column_type.ensures (c.in-Some.ensures.column t are) in
    on_ok_weaker c.put_find.result
    (subst (λ d. PutsLines (g.O.Out.seen c.args.out.now) (g.O.Out.seen c.put_find.new.out) (d ∷ [])) line) c.put_find.ensures

pub returns-in-None : goal.returns-in-None
returns-in-None g c = λ t are.
    let line = line-found t c.args.short (finds.find_of c.args.find.now) None _ _
    c.deref.ensures c.column_type.ensures (c.in-None.ensures.column t are) in
    subst (λ d. PutsLines (g.O.Out.seen c.args.out.now) (g.O.Out.seen c.put_absent.new.out) (d ∷ [])) line c.put_absent.ensures
