use Rattle.std.proofs.Common.{map, subst}
use Rattle.std.proofs.lemmas.Result.{err_from_is_err_and}
use Rattle.col_documents.specs.Forms.{named_form}
use Rattle.col_documents.specs.Read.{IsRefusedAs}
use Rattle.col_documents.proofs.DocumentLemmas.{member_part, IsPut, members_read}
use Rattle.col_documents.proofs.JoinedLemmas.{none_put, more_put, all_put, part_refused}
use Rattle.col_documents.proofs.document.+value.Goals as goal

pub push_members-loop-member-init : goal.push_members-loop-member-init
push_members-loop-member-init t c =
    none_put (member_part (map named_form c.args.forms.now) c.args.front.now) c.deref-member-items.result.now c.args.fields.now.items

pub push_members-returns-in_err-push_member : goal.push_members-returns-in_err-push_member
push_members-returns-in_err-push_member t c =
    let p = err_from_is_err_and c.from_residual.result c.from_residual.ensures.1 in
    let forms = map named_form c.args.forms.now in
    let e = c.in_err-push_member.field-0.0 in
    let all = part_refused (member_part forms c.args.front.now) c.deref-member-items.result.now c.loop-member.member-index
    c.member-item.result c.args.fields.now.items c.loop-member.fields.items e c.loop-member-test.true c.member-item.is
    c.loop-member.invariant c.in_err-push_member.ensures in
    rw (p.1, p.2) (subst (IsRefusedAs e) (members_read forms c.args.front.now c.deref-member-items.result.now c.args.members.now.items
    c.deref-member-items.ensures.value) all)

pub push_members-loop-member-preserved : goal.push_members-loop-member-preserved
push_members-loop-member-preserved t c =
    more_put (member_part (map named_form c.args.forms.now) c.args.front.now) c.deref-member-items.result.now c.loop-member.member-index
    c.member-item.result c.args.fields.now.items c.loop-member.fields.items c.push_member.new.fields.items c.loop-member-test.true
    c.member-item.is c.loop-member.invariant c.in_ok-push_member.ensures

pub push_members-returns : goal.push_members-returns
push_members-returns t c =
    let forms = map named_form c.args.forms.now in
    subst (IsPut c.args.fields.now.items c.loop-member.fields.items)
    (members_read forms c.args.front.now c.deref-member-items.result.now c.args.members.now.items c.deref-member-items.ensures.value)
    (all_put (member_part forms c.args.front.now) c.deref-member-items.result.now c.loop-member.member-index c.args.fields.now.items
    c.loop-member.fields.items c.loop-member-test.false c.loop-member.invariant)
