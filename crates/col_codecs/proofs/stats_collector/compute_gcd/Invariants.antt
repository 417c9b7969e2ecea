use Rattle.std.proofs.Common.{◌≡◌}
use Rattle.col_model.specs.Stats.{gcd}
use Rattle.col_codecs.proofs.stats_collector.compute_gcd.Given as goal

abbrev pub invariant-loop-small : goal.invariant-loop-small
invariant-loop-small l = gcd l.large l.small ≡ gcd l.fn.large l.fn.small

abbrev pub decreases-loop-small : goal.decreases-loop-small
decreases-loop-small l = l.small
