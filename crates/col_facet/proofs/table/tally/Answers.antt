use Rattle.std.proofs.Common.{◌==◌}
use Rattle.std.specs.List.{count_by}
use Rattle.col_facet.proofs.CountingLemmas.{two-counts}
use Rattle.col_facet.proofs.table.tally.Goals as goal

pub returns-then-base-lt18446744073709551615 : goal.returns-then-base-lt18446744073709551615
returns-then-base-lt18446744073709551615 g c =
    two-counts c.args.counts.now c.count_equal.result c.count_equal-then-base-lt18446744073709551615.result
    c.args.base (λ n. count_by (λ x. g.T.MonotonicallyMappableToU64.code x == n) c.args.values.now)
    c.if-counts-eq2.true c.count_equal.ensures c.count_equal-then-base-lt18446744073709551615.ensures
