use Rattle.std.proofs.Common.{◌+◌, ◌*◌, ◌/◌, ◌%◌, ◌^◌, ap, ◌∙◌, arith}
use Rattle.col_model.specs.Line.{line, signed_32}
use Rattle.col_codecs.proofs.LineLemmas.{extended_by_casts}
use Rattle.col_codecs.proofs.line.Line.eval.Goals as goal

pub returns : goal.returns
unfolding line
returns c =
    let l = c.args.self.now in
    let product = c.from.result * l.slope % 2 ^ 64 / 2 ^ 32 in
    ap (λ h. (l.intercept + h) % 2 ^ 64) (extended_by_casts product c.cast_unsigned.result c.cast_signed.result
    c.from-2.result (omega arith) c.cast_signed.ensures c.from-2.ensures c.cast_unsigned.ensures)
    ∙ ap (λ x. (l.intercept + signed_32 (x * l.slope % 2 ^ 64 / 2 ^ 32)) % 2 ^ 64) c.from.ensures
