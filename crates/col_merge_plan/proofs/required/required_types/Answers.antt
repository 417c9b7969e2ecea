use Rattle.std.proofs.Common.{◌≡◌, true, ap, ◌∙◌, sym, subst, arith}
use Rattle.std.specs.Str.{is_utf8}
use Rattle.std.proofs.lemmas.Str.{is_utf8-from_IsUtf8}
use Rattle.col_model.specs.Category.{slot_of}
use Rattle.col_model.specs.Written.{has_zero}
use Rattle.col_types.specs.Kinds.{kind_of}
use Rattle.col_merge_plan.proofs.RequiredLemmas.{item-more}
use Rattle.col_merge_plan.proofs.required.required_types.Goals as goal

pub loop-name-preserved : goal.loop-name-preserved
loop-name-preserved c =
    let p = c.loop-name-item.result in
    let same = c.as_str-name.ensures.value in
    item-more c.args.required_columns.now c.loop-name.name-index p (omega arith) c.loop-name-item.is
    c.loop-name.types c.loop-name.invariant c.require.new.types c.in_ok-slot.slot c.in_ok-require.field-0
    (c.in_ok-slot.ensures ∙ ap (λ bs. slot_of bs (kind_of p.1)) same)
    (subst (λ bs. is_utf8 bs ≡ true) same (is_utf8-from_IsUtf8 c.as_str-name.result.now c.as_str-name.utf8))
    (ap has_zero (sym same) ∙ sym c.if-has_zero.ensures)
    c.in_ok-require.ensures
