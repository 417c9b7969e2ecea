use Rattle.std.proofs.Common.{[], arith}
use Rattle.col_program.specs.Report.{column_lines}
use Rattle.col_opened.specs.Opened.{column_of}
use Rattle.col_print.proofs.PutsLemmas.{puts_then}
use Rattle.col_report.proofs.ReportLemmas.{lines-more, lines-all}
use Rattle.col_report.proofs.PutLemmas.{bare-lines, lines-put, printed, puts-no_lines}
use Rattle.col_report.proofs.report.put_columns.Goals as goal

pub loop-named-init : goal.loop-named-init
loop-named-init g c = puts-no_lines _

pub loop-named-preserved : goal.loop-named-preserved
loop-named-preserved g c =
    lines-put _ _ _ _ (lines-more (λ n. column_lines c.args.short (column_of n)) [] _ _ c.args.columns.now c.loop-named.named-index
    c.named-item.result (omega arith) c.named-item.is (printed [] _) (printed _ _))
    (puts_then _ _ _ _ _ (bare-lines _ _ _ c.loop-named.invariant) (bare-lines _ _ _ c.put_named.ensures))

pub returns : goal.returns
returns g c =
    lines-put _ _ _ _ (lines-all (λ n. column_lines c.args.short (column_of n)) [] _ c.args.columns.now c.loop-named.named-index
    (omega arith) (printed [] _)) (bare-lines _ _ _ c.loop-named.invariant)
