use Rattle.std.proofs.Common.{subst}
use Rattle.col_merge_values.specs.Merges.{IsMerge}
use Rattle.col_merge_values.proofs.RunLemmas.{walk-front}
use Rattle.col_merge_values.proofs.merged_column_values.MergedColumnValuesIterable.walk.Goals as goal

pub returns-clause-front : goal.returns-clause-front
returns-clause-front g c =
    walk-front c.args.self.now c.default.result (subst IsMerge c.self.view_is c.self.invariant)
    c.default.ensures.1.0 c.default.ensures.1.1.0 c.default.ensures.1.1.1
