use Rattle.std.proofs.Common.{refl, sym, ap, ◌∙◌, bytes_eq}
use Rattle.col_documents.proofs.FormLemmas.{form_found, form_passed, form_end}
use Rattle.col_documents.proofs.form.form_of.Goals as goal

pub loop-name-init : goal.loop-name-init
loop-name-init c = refl

pub returns-then-eq : goal.returns-then-eq
returns-then-eq c =
    form_found c.args.forms.now c.loop-name.name-index c.loop-name-item.result c.args.path.now c.loop-name-test.true c.loop-name-item.is
    (ap (λ s. bytes_eq s c.args.path.now) (sym c.as_str.ensures.value) ∙ sym c.eq.ensures ∙ c.if-eq.true)
    ∙ c.loop-name.invariant

pub loop-name-preserved : goal.loop-name-preserved
loop-name-preserved c =
    form_passed c.args.forms.now c.loop-name.name-index c.loop-name-item.result c.args.path.now c.loop-name-test.true c.loop-name-item.is
    (ap (λ s. bytes_eq s c.args.path.now) (sym c.as_str.ensures.value) ∙ sym c.eq.ensures ∙ c.if-eq.false)
    ∙ c.loop-name.invariant

pub returns : goal.returns
returns c = form_end c.args.forms.now c.loop-name.name-index c.args.path.now c.loop-name-test.false ∙ c.loop-name.invariant
