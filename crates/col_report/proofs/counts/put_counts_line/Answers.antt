use Rattle.std.proofs.Common.{[], ◌∷◌, Some, None, subst}
use Rattle.std.proofs.lemmas.Result.{on_ok_weaker}
use Rattle.col_dynamic.specs.Dynamic.{content_of}
use Rattle.col_types.specs.Kinds.{kind_of}
use Rattle.col_report.specs.Printed.{PutsLines}
use Rattle.col_report.proofs.FoundLemmas.{line-counted}
use Rattle.col_report.proofs.counts.put_counts_line.Goals as goal

pub returns-in-Some : goal.returns-in-Some
returns-in-Some g c = λ t are.
    let line = line-counted t c.args.name.now (kind_of c.args.column_type) (Some (content_of c.in-Some.column.now))
    (c.in-Some.ensures.column t are) in
    on_ok_weaker c.put_counts.result
    (subst (λ d. PutsLines (g.O.Out.seen c.args.out.now) (g.O.Out.seen c.put_counts.new.out) (d ∷ [])) line) c.put_counts.ensures

pub returns-in-None : goal.returns-in-None
returns-in-None g c = λ t are.
    let line = line-counted t c.args.name.now (kind_of c.args.column_type) None (c.in-None.ensures.column t are) in
    subst (λ d. PutsLines (g.O.Out.seen c.args.out.now) (g.O.Out.seen c.put_no_counts.new.out) (d ∷ [])) line
    c.put_no_counts.ensures
