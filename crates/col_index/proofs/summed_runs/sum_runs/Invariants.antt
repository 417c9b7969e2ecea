use Rattle.std.proofs.Common.{◌≡◌, ◌≤◌, ◌+◌, ◌++◌, drop}
use Rattle.col_model.specs.Index.{are_runs}
use Rattle.col_model.proofs.RowRunTests.{runs_from}
use Rattle.col_numbers.specs.Readers.{list_of}
use Rattle.col_index.specs.Runs.{sums_from}
use Rattle.col_index.proofs.RunGapLemmas.{GapsSoFar}
use Rattle.col_index.proofs.summed_runs.sum_runs.Given as goal

-- what is left decides, and the sums so far stand in front of those of what is left
abbrev pub invariant-loop-at : goal.invariant-loop-at
invariant-loop-at l =
    let starts = list_of l.starts in
    let lengths = list_of l.lengths in
    record {
      runs : are_runs l.num_rows starts lengths ≡ runs_from l.num_rows l.next (drop l.at starts) (drop l.at lengths);
      sums : l.before.items ++ sums_from l.total (drop l.at lengths) ≡ sums_from 0 lengths;
      gaps : GapsSoFar starts l.before.items l.gaps.items l.at;
      few : l.total ≤ l.next;
      next : l.next ≤ l.num_rows + 1;
    }
