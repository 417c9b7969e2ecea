use Rattle.std.proofs.Common.{rules, of_calls, length, arith}
use Rattle.std.specs.Prelude.{nat_le}
use Rattle.std.proofs.lemmas.Fn.{always_returns_same}
use Rattle.col_compact.proofs.PlaceLemmas.{split_between}
use Rattle.col_compact.proofs.code_hints.codes_behind.Goals as goal

pub returns-clause-split : goal.returns-clause-split
returns-clause-split c =
    split_between (λ m. m.compact_start) c.args.ranges.now c.requires.rises c.args.code c.args.low
    (length c.args.ranges.now) c.requires.low (omega arith) c.requires.below (λ k d from upto. absurd (omega arith))
    c.partition_point.result (c.partition_point.ensures.partitioned (λ m. nat_le m.compact_start c.args.code)
    (always_returns_same _ _ _ (λ a r f k. search (rules, of_calls)))) c.partition_point.ensures.bound
