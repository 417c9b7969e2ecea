use Rattle.std.proofs.Common.{drop}
use Rattle.std.specs.List.{flat_map}
use Rattle.col_compact.specs.Mapped.{ranges_of}
use Rattle.col_compact.specs.Written.{pairs_of, pair_bytes}
use Rattle.col_compact.proofs.SpellingLemmas.{Spelling}
use Rattle.col_compact.proofs.footer.serialize_ranges.Given as goal

abbrev pub invariant-loop-range : goal.invariant-loop-range
invariant-loop-range g l =
    Spelling l.before (drop l.range-index l.ranges) (flat_map pair_bytes (pairs_of 0 (ranges_of l.ranges)))
    (g.K.Sink.seen l.fn.sink) (g.K.Sink.seen l.sink)
