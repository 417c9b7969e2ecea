use Rattle.std.proofs.Common.{length, ap, ◌∙◌}
use Rattle.col_report.proofs.LineLemmas.{cells-counted}
use Rattle.col_report.proofs.lines.values_in.Goals as goal

pub returns : goal.returns
returns g c =
    λ cell. c.num_vals.ensures ∙ ap (λ v. length (g.V.ColumnValues.values v)) c.values.ensures
    ∙ cells-counted cell c.args.column.now.shape (g.V.ColumnValues.values c.args.column.now.values)
    c.values_are_counted.ensures
