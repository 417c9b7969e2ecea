use Rattle.std.proofs.Common.{codes}
use Rattle.col_gen.proofs.AddedLemmas.{find-printed}
use Rattle.col_gen.proofs.lookups.push_delta_find.Goals as goal

pub returns : goal.returns
returns c =
    find-printed c.push_find.result _ _ (codes "delta") (codes "i64") _ _ _ _ _ _ c.from-low.ensures
    c.from-high.ensures c.push_find.ensures
