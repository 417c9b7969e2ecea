use Rattle.std.proofs.Common.{[], refl}
use Rattle.col_print.proofs.PutsLemmas.{puts_then}
use Rattle.col_report.proofs.PutLemmas.{bare, spelled, lines-put}
use Rattle.col_report.proofs.RowLemmas.{filled-row}
use Rattle.col_report.proofs.rows.put_filled_row.Goals as goal

pub returns : goal.returns
returns g c =
    lines-put _ _ _ _ (filled-row g.P.PrintCells.kind (g.P.PrintCells.cell c.args.cells.now)
    (g.V.ColumnValues.values c.args.values.now) [] _ _ _ _ _ _ c.args.row _ _ _ c.get_val.ensures c.requires.filled
    c.requires.within refl refl refl (spelled _ _) refl refl)
    (puts_then _ _ _ _ _ (puts_then _ _ _ _ _
    (puts_then _ _ _ _ _ (puts_then _ _ _ _ _ (puts_then _ _ _ _ _ c.put.ensures c.put_number.ensures) c.put-2.ensures) (bare _ _ _ c.put-3.ensures))
    c.put_others.ensures) c.put-4.ensures)
