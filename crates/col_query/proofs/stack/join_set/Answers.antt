use Rattle.col_query.proofs.StackLemmas.{taken_top}
use Rattle.col_query.proofs.stack.join_set.Goals as goal

pub returns-in-Some : goal.returns-in-Some
returns-in-Some c =
    λ t q p r qs same is s e.
    let h = taken_top t p qs c.args.sets.now.items c.pop.new.self.items c.in-Some.below s c.in-Some.ensures.items in
    c.put_joined.ensures t q p r qs same h.0 is h.1 e
