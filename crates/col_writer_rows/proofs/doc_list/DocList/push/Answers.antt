use Rattle.std.proofs.Common.{◌∙◌, sym, ap, arith, length}
use Rattle.col_common.specs.Ascending.{is_never_falling}
use Rattle.col_writer_rows.specs.Documents.{dense_then}
use Rattle.col_writer_rows.proofs.DocumentLemmas.{next-parts, dense_then-next, dense_then-push, length-dense_then, never_falling-push}
use Rattle.col_writer_rows.proofs.doc_list.DocList.push.Goals as goal

pub overflow_add-self : goal.overflow_add-self
overflow_add-self c =
    omega (
      arith,
      length-dense_then c.self.inside.num_dense c.self.inside.others.items,
      ap length c.self.view_is,
      c.requires.few,
    )

pub returns-then-is_next-clause-ok : goal.returns-then-is_next-clause-ok
returns-then-is_next-clause-ok c =
    let both = next-parts c.args.doc c.self.inside.num_dense c.deref.result.now c.is_next.result c.is_next.ensures c.if-is_next.true in
    dense_then-next c.self.inside.num_dense c.self.inside.others.items c.args.self.now c.args.doc c.self.view_is
    (sym c.deref.ensures.value ∙ both.1) both.0

pub invariant_of-self : goal.invariant_of-self
invariant_of-self c =
    let both = next-parts c.args.doc c.self.inside.num_dense c.deref.result.now c.is_next.result c.is_next.ensures c.if-is_next.true in
    ap is_never_falling (dense_then-next c.self.inside.num_dense c.self.inside.others.items c.args.self.now
    c.args.doc c.self.view_is (sym c.deref.ensures.value ∙ both.1) both.0)
    ∙ never_falling-push c.args.self.now c.args.doc (ap is_never_falling (sym c.self.view_is) ∙ c.self.invariant) c.requires.order

pub invariant_of-self-2 : goal.invariant_of-self-2
invariant_of-self-2 c =
    ap (λ r. is_never_falling (dense_then c.self.inside.num_dense r)) c.in_ok-push.ensures.items
    ∙ ap is_never_falling (dense_then-push c.self.inside.num_dense c.self.inside.others.items c.args.self.now c.args.doc c.self.view_is)
    ∙ never_falling-push c.args.self.now c.args.doc (ap is_never_falling (sym c.self.view_is) ∙ c.self.invariant) c.requires.order

pub returns-clause-ok : goal.returns-clause-ok
returns-clause-ok c =
    ap (dense_then c.self.inside.num_dense) c.in_ok-push.ensures.items
    ∙ dense_then-push c.self.inside.num_dense c.self.inside.others.items c.args.self.now c.args.doc c.self.view_is
