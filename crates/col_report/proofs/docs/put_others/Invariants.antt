use Rattle.std.proofs.Common.{◌≡◌, ℕ, List, ◌++◌, map, drop}
use Rattle.col_print.specs.Puts.{Puts}
use Rattle.col_program.specs.Report.{count_data}
use Rattle.col_report.specs.Printed.{more_text}
use Rattle.col_report.proofs.docs.put_others.Given as goal

-- what was put, and the text that is left behind it
abbrev pub invariant-loop-doc : goal.invariant-loop-doc
invariant-loop-doc g l =
    (done : List ℕ) × Puts (g.O.Out.seen l.initial.out) (g.O.Out.seen l.out) done
    × (done ++ more_text (map count_data (drop l.doc-index l.docs)) ≡ more_text (map count_data l.docs))
