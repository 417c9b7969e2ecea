use Rattle.std.proofs.Common.{map, take}
use Rattle.col_program.specs.Report.{Prints}
use Rattle.col_report.specs.Checked.{listed_name, told_lines}
use Rattle.col_report.proofs.check.push_entries.Given as goal

abbrev pub invariant-loop-place : goal.invariant-loop-place
invariant-loop-place l =
    Prints l.initial.out.items l.out.items
    (told_lines (take l.place (map listed_name l.columns)) (take l.place l.whole))
