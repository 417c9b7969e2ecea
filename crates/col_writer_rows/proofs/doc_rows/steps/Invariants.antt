use Rattle.std.proofs.Common.{◌≡◌, ◌++◌, drop}
use Rattle.col_writer_rows.specs.Counted.{steps_from}
use Rattle.col_writer_rows.proofs.doc_rows.steps.Given as goal

-- the steps so far, and those that are left
abbrev pub invariant-loop-start : goal.invariant-loop-start
invariant-loop-start l = l.steps.items ++ steps_from l.last (drop l.start-index l.starts) ≡ steps_from 0 l.starts
