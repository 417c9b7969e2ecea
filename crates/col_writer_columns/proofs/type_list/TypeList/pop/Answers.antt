use Rattle.std.proofs.Common.{arith}
use Rattle.col_writer_columns.proofs.TypeListLemmas.{same_then-fewer, same_then-left}
use Rattle.col_writer_columns.proofs.type_list.TypeList.pop.Goals as goal

pub overflow_sub-self : goal.overflow_sub-self
overflow_sub-self c =
    let h = same_then-fewer c.self.inside.num_first c.self.inside.first c.self.inside.others.items
    c.pop.new.self.items c.args.self.now c.pop.result c.is_none.result c.self.view_is c.pop.ensures.items
    c.is_none.ensures c.if-is_none.true _ _ c.self.inside.others.ok.0 c.pop.ensures.cases c.requires in
    omega (arith, h.0)

pub returns-then-is_none : goal.returns-then-is_none
returns-then-is_none c =
    (same_then-fewer c.self.inside.num_first c.self.inside.first c.self.inside.others.items c.pop.new.self.items
    c.args.self.now c.pop.result c.is_none.result c.self.view_is c.pop.ensures.items c.is_none.ensures
    c.if-is_none.true _ _ c.self.inside.others.ok.0 c.pop.ensures.cases c.requires).1

pub returns-else-is_none : goal.returns-else-is_none
returns-else-is_none c =
    same_then-left c.self.inside.num_first c.self.inside.first c.self.inside.others.items c.pop.new.self.items
    c.args.self.now c.pop.result c.is_none.result c.self.view_is c.pop.ensures.items c.is_none.ensures
    c.if-is_none.false
