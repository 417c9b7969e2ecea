use Rattle.std.proofs.Common.{length}
use Rattle.col_numbers.proofs.CollectingLemmas.{Collecting, IsCollected}
use Rattle.col_numbers.proofs.serialize.collect_stats.Given as goal

-- the collector and the count stand for what was collected, which fits
abbrev pub invariant-loop-value : goal.invariant-loop-value
invariant-loop-value g l =
    let walked = g.I.Iterable in
    record {
      stands : walked.stands l.vals l.at;
      collecting : Collecting (IsCollected l.collector l.count) (walked.left l.vals l.at) (walked.items l.vals);
    }

abbrev pub decreases-loop-value : goal.decreases-loop-value
decreases-loop-value g l = length (g.I.Iterable.left l.vals l.at)
