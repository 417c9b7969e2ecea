use Rattle.std.proofs.Common.{◌∙◌, ap, sym, arith, ◌-◌}
use Rattle.col_writer_rows.specs.Documents.{dense_then}
use Rattle.col_common.specs.Ascending.{is_never_falling}
use Rattle.col_writer_rows.proofs.CutLemmas.{dense-cut, others-cut, cut_of, never_falling-cut}
use Rattle.col_writer_rows.proofs.doc_list.DocList.pop.Goals as goal

pub overflow_sub-self : goal.overflow_sub-self
overflow_sub-self c =
    let h = dense-cut c.self.inside.num_dense c.self.inside.others.items c.pop.new.self.items c.args.self.now
    c.pop.result c.is_none.result c.self.view_is c.pop.ensures.items c.is_none.ensures c.if-is_none.true _ _
    c.self.inside.others.ok.0 c.pop.ensures.cases c.requires in
    omega (arith, h.1)

pub invariant_of-self : goal.invariant_of-self
invariant_of-self c =
    let h = dense-cut c.self.inside.num_dense c.self.inside.others.items c.pop.new.self.items c.args.self.now
    c.pop.result c.is_none.result c.self.view_is c.pop.ensures.items c.is_none.ensures c.if-is_none.true _ _
    c.self.inside.others.ok.0 c.pop.ensures.cases c.requires in
    never_falling-cut (dense_then (c.self.inside.num_dense - 1) c.pop.new.self.items) h.0
    (ap is_never_falling (sym h.2) ∙ ap is_never_falling (sym c.self.view_is) ∙ c.self.invariant)

pub returns-then-is_none : goal.returns-then-is_none
returns-then-is_none c =
    let h = dense-cut c.self.inside.num_dense c.self.inside.others.items c.pop.new.self.items c.args.self.now
    c.pop.result c.is_none.result c.self.view_is c.pop.ensures.items c.is_none.ensures c.if-is_none.true _ _
    c.self.inside.others.ok.0 c.pop.ensures.cases c.requires in
    cut_of c.args.self.now _ h.0 h.2

pub invariant_of-self-else-is_none : goal.invariant_of-self-else-is_none
invariant_of-self-else-is_none c =
    let h = others-cut c.self.inside.num_dense c.self.inside.others.items c.pop.new.self.items c.args.self.now
    c.pop.result c.is_none.result c.self.view_is c.pop.ensures.items c.is_none.ensures c.if-is_none.false in
    never_falling-cut (dense_then c.self.inside.num_dense c.pop.new.self.items) h.0
    (ap is_never_falling (sym h.1) ∙ ap is_never_falling (sym c.self.view_is) ∙ c.self.invariant)

pub returns-else-is_none : goal.returns-else-is_none
returns-else-is_none c =
    let h = others-cut c.self.inside.num_dense c.self.inside.others.items c.pop.new.self.items c.args.self.now
    c.pop.result c.is_none.result c.self.view_is c.pop.ensures.items c.is_none.ensures c.if-is_none.false in
    cut_of c.args.self.now _ h.0 h.1
