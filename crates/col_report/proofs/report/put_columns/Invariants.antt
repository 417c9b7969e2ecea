use Rattle.std.proofs.Common.{flat_map, take}
use Rattle.col_program.specs.Report.{column_lines}
use Rattle.col_opened.specs.Opened.{column_of}
use Rattle.col_report.specs.Printed.{PutsLines}
use Rattle.col_report.proofs.report.put_columns.Given as goal

abbrev pub invariant-loop-named : goal.invariant-loop-named
invariant-loop-named g l =
    PutsLines (g.O.Out.seen l.initial.out) (g.O.Out.seen l.out)
    (flat_map (λ c. column_lines l.short (column_of c)) (take l.named-index l.columns))
