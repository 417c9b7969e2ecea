use Rattle.std.proofs.Common.{◌≡◌, List, Option, Some, None, IsSomeAnd, OnOk, IfErr, sym, ap, ◌∙◌, subst, arith}
use Rattle.std.proofs.lemmas.Result.{err_from_is_err_and}
use Rattle.serde_json.specs.View.{view, items_view}
use Rattle.serde_json.specs.declared.value.Value.{Value}
use Rattle.col_questions.specs.Parsed.{joined_by}
use Rattle.col_program.specs.Queries.{Query, query_of, query_in, members_of, queries_of}
use Rattle.col_questions.specs.Steps.{PutsQuery}
use Rattle.col_questions.specs.declared.parse.Prefix.{Prefix}
use Rattle.col_questions.specs.declared.query_error.QueryError.TheVariants.{Shape}
use Rattle.col_questions.proofs.ParseLemmas.{none_put, more_put, members_none, two_items, four_items, six_items, not_put, joint_put}
use Rattle.col_questions.proofs.parse.+query.Goals as goal

pub push_all_members-loop-member-init : goal.push_all_members-loop-member-init
push_all_members-loop-member-init t c = none_put c.args.joint c.args.steps.now.items

pub push_all_members-returns-in_err-push_query-clause-shape : goal.push_all_members-returns-in_err-push_query-clause-shape
push_all_members-returns-in_err-push_query-clause-shape t c =
    let p = err_from_is_err_and c.from_residual.result c.from_residual.ensures.1 in
    let vs = c.deref-member-items.result.now in
    rw (p.1, p.2) (λ shape. ap (λ (xs : List Value). queries_of (items_view xs)) (sym c.deref-member-items.ensures.value)
    ∙ members_none vs c.loop-member.member-index c.member-item.result c.loop-member-test.true c.member-item.is
    (c.in_err-push_query.ensures.shape shape))

pub push_all_members-loop-member-preserved : goal.push_all_members-loop-member-preserved
push_all_members-loop-member-preserved t c =
    more_put c.args.joint c.deref-member-items.result.now c.loop-member.member-index c.member-item.result c.args.steps.now.items
    c.loop-member.steps.items c.push_query.new.steps.items c.push.new.self.items c.loop-member-test.true c.member-item.is
    c.loop-member.invariant c.in_ok-push_query.ensures.ok c.in_ok-push.ensures.items

pub push_items-returns-in-len2-clause-ok : goal.push_items-returns-in-len2-clause-ok
push_items-returns-in-len2-clause-ok t c =
    let vs = c.as_slice.result.now in
    let P : Option Query → Type 0 = λ o. OnOk c.push_joined.result (IsSomeAnd o
    (PutsQuery c.args.steps.now.items c.push_joined.new.steps.items)) in
    let two = two_items vs c.word-item-then-this-lt3.result c.part-item.result (omega arith) c.word-item-then-this-lt3.is c.part-item.is in
    subst P (sym (ap (λ (xs : List Value). query_in (items_view xs)) (sym c.as_slice.ensures.value) ∙ two)) c.push_joined.ensures.ok

pub push_items-returns-in-len2-clause-shape : goal.push_items-returns-in-len2-clause-shape
push_items-returns-in-len2-clause-shape t c =
    let vs = c.as_slice.result.now in
    let P : Option Query → Type 0 = λ o. IfErr c.push_joined.result (λ e. e ≡ Shape → o ≡ None) in
    let two = two_items vs c.word-item-then-this-lt3.result c.part-item.result (omega arith) c.word-item-then-this-lt3.is c.part-item.is in
    subst P (sym (ap (λ (xs : List Value). query_in (items_view xs)) (sym c.as_slice.ensures.value) ∙ two)) c.push_joined.ensures.shape

pub push_items-returns-in_default-2-clause-shape : goal.push_items-returns-in_default-2-clause-shape
push_items-returns-in_default-2-clause-shape t c =
    λ shape. ap (λ (xs : List Value). query_in (items_view xs)) (sym c.as_slice.ensures.value)
    ∙ four_items c.as_slice.result.now (omega arith)

pub push_items-returns-in_default-3-clause-shape : goal.push_items-returns-in_default-3-clause-shape
push_items-returns-in_default-3-clause-shape t c =
    λ shape. ap (λ (xs : List Value). query_in (items_view xs)) (sym c.as_slice.ensures.value)
    ∙ six_items c.as_slice.result.now (omega arith)

pub push_joined-returns-in_ok-push-in-Some-Not-clause-ok : goal.push_joined-returns-in_ok-push-in-Some-Not-clause-ok
push_joined-returns-in_ok-push-in-Some-Not-clause-ok t c =
    let q = query_of (view c.args.part.now) in
    let qs = members_of (view c.args.part.now) in
    let read = c.prefix_of.ensures q qs
    ∙ ap (λ (o : Option Prefix). joined_by o q qs) (c.in-Some-Not.is ∙ ap Some c.in-Some-Not.field-0-is) in
    let P : Option Query → Type 0 = λ o. IsSomeAnd o (PutsQuery c.args.steps.now.items c.push.new.self.items) in
    subst P (sym read) (not_put q c.args.steps.now.items c.push_query.new.steps.items c.push.new.self.items
    c.in_ok-push_query-in-Some-Not.ensures.ok c.in_ok-push-in-Some-Not.ensures.items)

pub push_joined-returns-in_ok-push-in-Some-Members-clause-ok : goal.push_joined-returns-in_ok-push-in-Some-Members-clause-ok
push_joined-returns-in_ok-push-in-Some-Members-clause-ok t c =
    let q = query_of (view c.args.part.now) in
    let qs = members_of (view c.args.part.now) in
    let read = c.prefix_of.ensures q qs
    ∙ ap (λ (o : Option Prefix). joined_by o q qs) (c.in-Some-Members.is ∙ ap Some c.in-Some-Members.field-0-is) in
    let P : Option Query → Type 0 = λ o. OnOk c.push_members.result (IsSomeAnd o
    (PutsQuery c.args.steps.now.items c.push_members.new.steps.items)) in
    subst P (sym read) (joint_put c.in-Some-Members.joint qs c.push_members.result c.args.steps.now.items
    c.push-in-Some-Members.new.self.items c.push_members.new.steps.items
    c.in_ok-push-in-Some-Members.ensures.items c.push_members.ensures.ok)
