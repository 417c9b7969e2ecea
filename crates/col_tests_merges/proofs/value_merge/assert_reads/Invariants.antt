use Rattle.col_merge_values.specs.Merges.{StandsInRun}
use Rattle.col_tests_merges.proofs.value_merge.assert_reads.Given as goal

-- the walk is one of the list
abbrev pub invariant-loop-item : goal.invariant-loop-item
invariant-loop-item g l = StandsInRun l.merged.columns l.at
