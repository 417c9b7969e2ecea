use Rattle.std.proofs.Common.{[], refl, arith}
use Rattle.col_print.proofs.PutsLemmas.{puts_none, puts_as, puts_then}
use Rattle.col_report.proofs.PutLemmas.{bare, spelled}
use Rattle.col_report.proofs.RowLemmas.{others-more, others-none}
use Rattle.col_report.proofs.rows.put_others.Goals as goal

pub loop-at-init : goal.loop-at-init
loop-at-init g c = ([], puts_none _, refl)

pub loop-at-preserved : goal.loop-at-preserved
loop-at-preserved g c =
    let before = c.loop-at.invariant in (
      _,
      puts_then _ _ _ _ _ (puts_then _ _ _ _ _ before.1 c.put.ensures) (bare _ _ _ c.put-in-loop-at.ensures),
      others-more g.P.PrintCells.kind (g.P.PrintCells.cell c.args.cells.now)
          (g.V.ColumnValues.values c.args.values.now) _ _ _ _ c.loop-at.at c.args.«end» _ c.get_val.ensures (omega arith)
          c.requires.within before.2 refl (spelled _ _),
    )

pub returns : goal.returns
returns g c =
    let before = c.loop-at.invariant in
    puts_as _ _ _ _ (others-none g.P.PrintCells.kind (g.P.PrintCells.cell c.args.cells.now)
    (g.V.ColumnValues.values c.args.values.now) _ _ c.loop-at.at c.args.«end» (omega arith) before.2) before.1
