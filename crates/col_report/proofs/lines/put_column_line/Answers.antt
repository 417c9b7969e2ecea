use Rattle.std.proofs.Common.{◌∙◌, ap}
use Rattle.col_model.specs.Table.{cardinality_name}
use Rattle.col_print.proofs.PutsLemmas.{puts_then}
use Rattle.col_report.proofs.LineLemmas.{column-put, shape-cardinality}
use Rattle.col_report.specs.Reported.{named_as}
use Rattle.col_report.proofs.lines.put_column_line.Goals as goal

pub returns : goal.returns
returns g c =
    column-put _ _ (named_as c.args.name.now c.args.column.now) _ _ _ c.column_type.ensures
    (c.cardinality_word.ensures ∙ ap cardinality_name (c.get_cardinality.ensures ∙ shape-cardinality c.args.column.now)) c.cells_in.ensures
    (puts_then _ _ _ _ _ (puts_then _ _ _ _ _
    (puts_then _ _ _ _ _ (puts_then _ _ _ _ _ (puts_then _ _ _ _ _ c.put.ensures c.put_name.ensures) c.put_quoted.ensures) c.put-2.ensures)
    c.put_number.ensures) c.put-3.ensures)
