use Rattle.std.proofs.Common.{sym, ◌∙◌}
use Rattle.col_csv_fields.proofs.NumberLemmas.{no-front, no-digit, too-great, digits-more, read-all}
use Rattle.col_csv_fields.proofs.number.number_spelled.Goals as goal

pub returns-then-not-begins_as_number : goal.returns-then-not-begins_as_number
returns-then-not-begins_as_number c =
    no-front c.args.text.now (sym c.begins_as_number.ensures ∙ c.if-not-begins_as_number.true)

pub returns-then-not-is_ascii_digit : goal.returns-then-not-is_ascii_digit
returns-then-not-is_ascii_digit c =
    no-digit c.args.text.now c.loop-byte.byte-index c.loop-byte-test.true
    (sym c.is_ascii_digit.ensures.value ∙ c.if-not-is_ascii_digit.true)

pub returns-in_err-number : goal.returns-in_err-number
returns-in_err-number c =
    rw c.from_residual.ensures
    (too-great c.args.text.now c.loop-byte.byte-index c.loop-byte.number c.from.result c.loop-byte-test.true
    c.loop-byte.invariant (sym c.is_ascii_digit.ensures.value ∙ c.if-not-is_ascii_digit.false) c.from.ensures
    (sym c.in_err-number.was ∙ c.with_digit.ensures))

pub loop-byte-preserved : goal.loop-byte-preserved
loop-byte-preserved c =
    digits-more c.args.text.now c.loop-byte.byte-index c.loop-byte.number c.from.result c.in_ok-number.number c.loop-byte-test.true
    c.loop-byte.invariant (sym c.is_ascii_digit.ensures.value ∙ c.if-not-is_ascii_digit.false) c.from.ensures
    (sym c.in_ok-number.was ∙ c.with_digit.ensures)

pub returns : goal.returns
returns c = (
  c.loop-byte.invariant.fits,
  read-all c.args.text.now c.loop-byte.byte-index c.loop-byte.number
      (sym c.begins_as_number.ensures ∙ c.if-not-begins_as_number.false) c.loop-byte-test.false c.loop-byte.invariant,
)
