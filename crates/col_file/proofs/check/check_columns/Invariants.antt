use Rattle.col_file.proofs.CheckLemmas.{ChecksFrom}
use Rattle.col_file.proofs.check.check_columns.Given as goal

abbrev pub invariant-loop-place : goal.invariant-loop-place
invariant-loop-place g l = ChecksFrom l.fn.reader l.reader l.place l.whole.items
