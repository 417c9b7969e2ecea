use Rattle.col_compact.proofs.ReadingLemmas.{IsReading}
use Rattle.col_compact.proofs.reading.read_ranges.Given as goal

abbrev pub invariant-loop-done : goal.invariant-loop-done
invariant-loop-done l = IsReading l.fn.bytes l.count l._done l.ranges.items l.before l.apart l.codes l.rest
