use Rattle.std.proofs.Common.{◌≡◌, length}
use Rattle.col_numbers.proofs.CollectingLemmas.{Collecting}
use Rattle.col_numbers.proofs.estimator.collect_each.Given as goal

-- what is collected and what is left are the list
abbrev pub invariant-loop-value : goal.invariant-loop-value
invariant-loop-value g l =
    let walked = g.I.Iterable in
    let estimating = g.E.ColumnCodecEstimator in
    record {
      stands : walked.stands l.vals l.at;
      collecting : Collecting (estimating.Collected l.estimator) (walked.left l.vals l.at) (walked.items l.vals);
      code : estimating.code l.estimator ≡ estimating.code l.initial.estimator;
    }

abbrev pub decreases-loop-value : goal.decreases-loop-value
decreases-loop-value g l = length (g.I.Iterable.left l.vals l.at)
