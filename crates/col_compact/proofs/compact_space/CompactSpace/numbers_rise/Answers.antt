use Rattle.std.proofs.Common.{ℕ, List, subst}
use Rattle.col_compact.specs.Coded.{NumbersRise}
use Rattle.col_compact.proofs.CodedLemmas.{rising}
use Rattle.col_compact.proofs.compact_space.CompactSpace.numbers_rise.Goals as goal

pub returns : goal.returns
returns c =
    subst (λ (rs : List (ℕ × ℕ)). NumbersRise rs) c.self.view_is (rising c.self.inside.ranges_mapping.items c.self.invariant)
