use Rattle.std.proofs.Common.{◌∙◌, ◌==◌, ap, arith}
use Rattle.col_csv_fields.proofs.NumberLemmas.{row-read}
use Rattle.col_csv_fields.proofs.number.is_row_number.Goals as goal

pub returns-in-Some : goal.returns-in-Some
returns-in-Some c =
    ap (λ row. c.in-Some.number == row) c.from.ensures
    ∙ row-read c.args.field.now c.in-Some.number c.args.row c.in-Some.ensures.0 c.in-Some.ensures.1 (omega arith)
