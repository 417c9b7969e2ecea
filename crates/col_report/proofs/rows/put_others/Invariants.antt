use Rattle.std.proofs.Common.{◌≡◌, ℕ, List, ◌++◌, map, slice_range}
use Rattle.col_print.specs.Puts.{Puts}
use Rattle.col_program.specs.Report.{cell_data}
use Rattle.col_report.specs.Printed.{more_text}
use Rattle.col_report.proofs.rows.put_others.Given as goal

-- what was put, and the text that is left behind it
abbrev pub invariant-loop-at : goal.invariant-loop-at
invariant-loop-at g l =
    let text = λ (at : ℕ). more_text (map (cell_data g.P.PrintCells.kind)
    (map (g.P.PrintCells.cell l.cells) (slice_range (g.V.ColumnValues.values l.values) at l.«end»))) in
    (done : List ℕ) × Puts (g.O.Out.seen l.initial.out) (g.O.Out.seen l.out) done × (done ++ text l.at ≡ text l.start)
