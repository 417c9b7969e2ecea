use Rattle.col_program.specs.Queries.{holds, none_of}
use Rattle.col_query.proofs.StackLemmas.{taken_top}
use Rattle.col_query.proofs.stack.turn_top.Goals as goal

pub returns-in-Some : goal.returns-in-Some
returns-in-Some c =
    λ t q qs s.
    let p = taken_top t q qs c.args.sets.now.items c.pop.new.self.items c.in-Some.set s c.in-Some.ensures.items in
    c.put_set.ensures t (none_of q) qs p.1 (c.not.ensures t.row_count (holds t q) p.0)
