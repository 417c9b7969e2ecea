use Rattle.std.proofs.Common.{◌∙◌, sym, ap}
use Rattle.col_common.specs.Reading.{◌>>=◌}
use Rattle.col_csv_fields.specs.Fields.{negated}
use Rattle.col_csv_fields.proofs.SignedLemmas.{minus-read, plain-told, positive}
use Rattle.col_csv_fields.proofs.number.signed_spelled.Goals as goal

pub returns-in_err-number_spelled-clause-i64 : goal.returns-in_err-number_spelled-clause-i64
returns-in_err-number_spelled-clause-i64 c =
    minus-read c.args.text.now c.number_spelled.result c.from_residual.result (sym c.has_minus.ensures ∙ c.if-has_minus.true)
    c.number_spelled.ensures (c.from_residual.ensures ∙ sym (ap (λ o. o >>= negated) c.in_err-number_spelled.was))

pub returns-in_err-number_spelled-clause-datetime :
    goal.returns-in_err-number_spelled-clause-datetime
returns-in_err-number_spelled-clause-datetime c = returns-in_err-number_spelled-clause-i64 c

pub returns-then-has_minus-clause-i64 : goal.returns-then-has_minus-clause-i64
returns-then-has_minus-clause-i64 c =
    minus-read c.args.text.now c.number_spelled.result c.negative.result (sym c.has_minus.ensures ∙ c.if-has_minus.true)
    c.number_spelled.ensures (c.negative.ensures ∙ sym (ap (λ o. o >>= negated) c.in_ok-number_spelled.was))

pub returns-then-has_minus-clause-datetime : goal.returns-then-has_minus-clause-datetime
returns-then-has_minus-clause-datetime c = returns-then-has_minus-clause-i64 c

pub returns-clause-i64 : goal.returns-clause-i64
returns-clause-i64 c =
    plain-told c.args.text.now c.number_spelled-2.result c.positive.result (sym c.has_minus.ensures ∙ c.if-has_minus.false)
    c.number_spelled-2.ensures (c.positive.ensures ∙ sym (ap (λ o. o >>= positive) c.in_ok-number_spelled-2.was))

pub returns-clause-datetime : goal.returns-clause-datetime
returns-clause-datetime c = returns-clause-i64 c
