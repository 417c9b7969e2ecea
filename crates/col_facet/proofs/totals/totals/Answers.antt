use Rattle.std.proofs.Common.{◌≡◌, subst}
use Rattle.std.specs.Result.{IfOk, IfErr}
use Rattle.col_facet.specs.Facets.{RefusesSums}
use Rattle.col_facet.proofs.totals.totals.Goals as goal
use Rattle.col_facet.proofs.ListedLemmas.{totals-sorted}

pub returns-clause-ok : goal.returns-clause-ok
returns-clause-ok c =
    let same = totals-sorted c.in_ok-listed.listed.items c.deref.result.now c.args.facets.now
    c.sort_listed.ensures.moved c.deref.ensures.value c.in_ok-listed.ensures in
    subst (λ t. IfOk c.sum_runs.result (λ sums. sums.items ≡ t)) same c.sum_runs.ensures.ok

pub returns-clause-err : goal.returns-clause-err
returns-clause-err c =
    let same = totals-sorted c.in_ok-listed.listed.items c.deref.result.now c.args.facets.now
    c.sort_listed.ensures.moved c.deref.ensures.value c.in_ok-listed.ensures in
    subst (λ t. IfErr c.sum_runs.result (λ e. RefusesSums e t)) same c.sum_runs.ensures.err
