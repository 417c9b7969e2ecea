use Rattle.std.proofs.Common.{◌∷◌}
use Rattle.col_query.proofs.StackLemmas.{taken_top}
use Rattle.col_query.proofs.stack.join_top.Goals as goal

pub returns-in-Some : goal.returns-in-Some
returns-in-Some c =
    λ t q p r qs same s e.
    let h = taken_top t q (p ∷ qs) c.args.sets.now.items c.pop.new.self.items c.in-Some.top s c.in-Some.ensures.items in
    c.join_set.ensures t q p r qs same h.0 h.1 e
