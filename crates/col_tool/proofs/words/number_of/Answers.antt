use Rattle.std.proofs.Common.{◌==◌, ◌||◌, nat_le, not, length, slice_index, sym, ap, ◌∙◌}
use Rattle.std.specs.List.{list_all}
use Rattle.std.specs.Char.{is_ascii_digit}
use Rattle.col_tool.proofs.NumberLemmas.{no-digits, zero-first, digits-read}
use Rattle.col_tool.proofs.words.number_of.Goals as goal

pub returns-then-not-are_digits : goal.returns-then-not-are_digits
returns-then-not-are_digits c =
    sym (no-digits c.args.word.now c.are_digits.result
    (c.are_digits.ensures ∙ ap (list_all is_ascii_digit) c.as_bytes-digits.ensures.value) c.if-not-are_digits.true)

pub returns-then-has_leading_zero : goal.returns-then-has_leading_zero
returns-then-has_leading_zero c =
    sym (zero-first c.args.word.now c.has_leading_zero.result (c.has_leading_zero.ensures
    ∙ ap (λ s. not (nat_le (length s) 1 || not (slice_index s 0 == 48))) c.as_bytes-digits.ensures.value)
    c.if-has_leading_zero.true)

pub returns : goal.returns
returns c = c.ok.ensures.value ∙ digits-read c.args.word.now c.are_digits.result c.has_leading_zero.result c.parse.result
    (c.are_digits.ensures ∙ ap (list_all is_ascii_digit) c.as_bytes-digits.ensures.value) c.if-not-are_digits.false
    (c.has_leading_zero.ensures
    ∙ ap (λ s. not (nat_le (length s) 1 || not (slice_index s 0 == 48))) c.as_bytes-digits.ensures.value)
    c.if-has_leading_zero.false c.parse.ensures.value.0
