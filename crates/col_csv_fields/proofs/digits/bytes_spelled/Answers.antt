use Rattle.std.proofs.Common.{◌∙◌, vec_len, sym, ap, arith}
use Rattle.col_common.specs.Reading.{only_if}
use Rattle.col_model.specs.Table.{text}
use Rattle.col_csv_fields.proofs.DigitLemmas.{no-bytes, front-is}
use Rattle.col_csv_fields.proofs.digits.bytes_spelled.Goals as goal

pub returns-then-not-are_lower_digits : goal.returns-then-not-are_lower_digits
returns-then-not-are_lower_digits c =
    no-bytes c.args.text.now (sym c.are_lower_digits.ensures ∙ c.if-not-are_lower_digits.true)

pub returns : goal.returns
returns c =
    let v = c.resize.new.self in
    let out = c.decode_into.new.out in
    c.decode_into.ensures
    ∙ ap (λ out. only_if c.decode_into.result (text out))
    (front-is v.len (vec_len v) out v.items (omega arith)
    (omega (arith, c.decode_into.auto.out, c.as_mut_slice.ensures.len)) (omega (arith, v.ok.0)))
