use Rattle.std.proofs.Common.{ℕ, List, [], ◌-◌, length}
use Rattle.col_print.specs.Puts.{Puts}
use Rattle.col_report.proofs.FilledLemmas.{AreLeft, all_behind}
use Rattle.col_report.proofs.rows.put_filled_rows.Given as goal

-- the lines that were put are all but those of the rows that are left
abbrev pub invariant-loop-start : goal.invariant-loop-start
invariant-loop-start g l =
    let cell = g.P.PrintCells.cell l.cells in
    let xs = g.V.ColumnValues.values l.values in
    let cs = g.E.RowEnds.counts l.ends in
    record {
      stands : g.R.Iterable.stands l.rows l.at;
      left : (done : List ℕ) × Puts (g.O.Out.seen l.initial.out) (g.O.Out.seen l.out) done
          × AreLeft g.P.PrintCells.kind cell xs cs (all_behind g.P.PrintCells.kind cell xs cs [])
          done (g.R.Iterable.left l.rows l.at) l.start l.rank;
    }

abbrev pub decreases-loop-start : goal.decreases-loop-start
decreases-loop-start g l = length (g.V.ColumnValues.values l.values) - l.start
