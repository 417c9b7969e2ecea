use Rattle.std.proofs.Common.{◌≡◌, ◌++◌, true, sym, ◌∙◌, subst}
use Rattle.std.specs.Result.{IfOk, IfErr, OnOk}
use Rattle.std.proofs.lemmas.Result.{err_from_is_err_and}
use Rattle.col_facet.specs.Facets.{totals_of, are_ascending, are_counted, RefusesSums}
use Rattle.col_facet.proofs.merge.merge_facets.Goals as goal
use Rattle.col_facet.proofs.MergeLemmas.{ascending-totals}
use Rattle.col_facet.proofs.AnyOrderLemmas.{left-instead, left-refused, made-ascend}

pub returns-in_err-left-clause-err : goal.returns-in_err-left-clause-err
returns-in_err-left-clause-err c =
    let p = err_from_is_err_and c.from_residual.result c.from_residual.ensures.1 in
    let totals = totals_of (c.args.left.now ++ c.args.right.now) in
    let refused = left-refused c.in_err-left.field-0.0 c.args.left.now c.args.right.now c.in_err-left.ensures.err in
    subst (λ r. IfErr r (λ e. RefusesSums e totals)) (sym p.1) (subst (λ e. RefusesSums e totals) (sym p.2) refused)

pub merge_any_right-requires-2 : goal.merge_any_right-requires-2
merge_any_right-requires-2 c =
    let is = c.deref.ensures.value ∙ c.in_ok-left.ensures.ok in
    record { left = subst (λ xs. are_ascending xs ≡ true) (sym is) (ascending-totals c.args.left.now) }

pub returns-clause-ok : goal.returns-clause-ok
returns-clause-ok c =
    subst (λ t. IfOk c.merge_any_right-2.result (λ sums. sums.items ≡ t))
    (left-instead c.args.left.now c.args.right.now c.deref.result.now (c.deref.ensures.value ∙ c.in_ok-left.ensures.ok))
    c.merge_any_right-2.ensures.ok

pub returns-then-is_ascending-clause-ascending : goal.returns-then-is_ascending-clause-ascending
returns-then-is_ascending-clause-ascending c = made-ascend c.merge_any_right.result _ c.merge_any_right.ensures.ok

pub returns-clause-ascending : goal.returns-clause-ascending
returns-clause-ascending c = made-ascend c.merge_any_right-2.result _ (returns-clause-ok c)

pub returns-clause-counted : goal.returns-clause-counted
returns-clause-counted c =
    subst (λ t. OnOk c.merge_any_right-2.result (are_counted t ≡ true))
    (left-instead c.args.left.now c.args.right.now c.deref.result.now (c.deref.ensures.value ∙ c.in_ok-left.ensures.ok))
    c.merge_any_right-2.ensures.counted

pub returns-clause-err : goal.returns-clause-err
returns-clause-err c =
    subst (λ t. IfErr c.merge_any_right-2.result (λ e. RefusesSums e t))
    (left-instead c.args.left.now c.args.right.now c.deref.result.now (c.deref.ensures.value ∙ c.in_ok-left.ensures.ok))
    c.merge_any_right-2.ensures.err
