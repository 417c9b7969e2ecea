use Rattle.std.proofs.Common.{◌≡◌, ◌++◌, true, sym, ◌∙◌, subst}
use Rattle.std.specs.Result.{IfOk, IfErr, OnOk}
use Rattle.std.proofs.lemmas.Result.{err_from_is_err_and}
use Rattle.col_facet.specs.Facets.{totals_of, are_ascending, are_counted, RefusesSums}
use Rattle.col_facet.proofs.merge.merge_any_right.Goals as goal
use Rattle.col_facet.proofs.MergeLemmas.{ascending-totals}
use Rattle.col_facet.proofs.AnyOrderLemmas.{right-instead, right-refused}

pub returns-in_err-right-clause-err : goal.returns-in_err-right-clause-err
returns-in_err-right-clause-err c =
    let p = err_from_is_err_and c.from_residual.result c.from_residual.ensures.1 in
    let totals = totals_of (c.args.left.now ++ c.args.right.now) in
    let refused = right-refused c.in_err-right.field-0.0 c.args.left.now c.args.right.now c.in_err-right.ensures.err in
    subst (λ r. IfErr r (λ e. RefusesSums e totals)) (sym p.1) (subst (λ e. RefusesSums e totals) (sym p.2) refused)

pub merge_ascending-requires-2-clause-right : goal.merge_ascending-requires-2-clause-right
merge_ascending-requires-2-clause-right c =
    subst (λ xs. are_ascending xs ≡ true) (sym (c.deref.ensures.value ∙ c.in_ok-right.ensures.ok)) (ascending-totals c.args.right.now)

pub returns-clause-ok : goal.returns-clause-ok
returns-clause-ok c =
    subst (λ t. IfOk c.merge_ascending-2.result (λ sums. sums.items ≡ t))
    (right-instead c.args.left.now c.args.right.now c.deref.result.now (c.deref.ensures.value ∙ c.in_ok-right.ensures.ok))
    c.merge_ascending-2.ensures.ok

pub returns-clause-counted : goal.returns-clause-counted
returns-clause-counted c =
    subst (λ t. OnOk c.merge_ascending-2.result (are_counted t ≡ true))
    (right-instead c.args.left.now c.args.right.now c.deref.result.now (c.deref.ensures.value ∙ c.in_ok-right.ensures.ok))
    c.merge_ascending-2.ensures.counted

pub returns-clause-err : goal.returns-clause-err
returns-clause-err c =
    subst (λ t. IfErr c.merge_ascending-2.result (λ e. RefusesSums e t))
    (right-instead c.args.left.now c.args.right.now c.deref.result.now (c.deref.ensures.value ∙ c.in_ok-right.ensures.ok))
    c.merge_ascending-2.ensures.err
