use Rattle.std.proofs.Common.{[], refl}
use Rattle.col_print.proofs.PutsLemmas.{puts_then}
use Rattle.col_report.proofs.LineLemmas.{column-short, column-long}
use Rattle.col_report.proofs.PutLemmas.{bare-lines, lines-put, printed}
use Rattle.col_report.specs.Reported.{named_as}
use Rattle.col_report.proofs.lines.put_column.Goals as goal

pub returns-then-short : goal.returns-then-short
returns-then-short g c =
    lines-put _ _ _ _ (column-short [] _ (named_as c.args.name.now c.args.column.now) _ c.args.short c.if-short.true refl (printed [] _))
    (bare-lines _ _ _ c.put_column_line.ensures)

pub returns : goal.returns
returns g c =
    lines-put _ _ _ _ (column-long [] _ _ (named_as c.args.name.now c.args.column.now) _ c.args.short c.if-short.false refl
    (printed [] _) (printed _ _))
    (puts_then _ _ _ _ _ (bare-lines _ _ _ c.put_column_line.ensures) (bare-lines _ _ _ c.put_row_lines.ensures))
