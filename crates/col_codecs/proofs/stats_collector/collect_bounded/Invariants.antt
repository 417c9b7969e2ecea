use Rattle.std.proofs.Common.{◌≡◌, ◌++◌, ℕ, List, take}
use Rattle.col_codecs.specs.ColumnStats.{collected_of}
use Rattle.col_codecs.proofs.stats_collector.collect_bounded.Given as goal

abbrev pub invariant-loop-at : goal.invariant-loop-at
invariant-loop-at l = (xs : List ℕ) → l.fn.collector ≡ collected_of xs → l.collector ≡ collected_of (xs ++ take l.at l.vals)
