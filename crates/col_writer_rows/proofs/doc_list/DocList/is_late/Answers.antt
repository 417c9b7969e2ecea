use Rattle.std.proofs.Common.{◌≡◌, ◌∙◌, sym, ap, arith, Some, None, length, ◌-◌}
use Rattle.std.specs.Prelude.{slice_get, nat_lt}
use Rattle.col_writer_rows.proofs.DocumentLemmas.{late-found, late-dense, late-none}
use Rattle.col_writer_rows.proofs.doc_list.DocList.is_late.Goals as goal

pub returns-in-Some : goal.returns-in-Some
returns-in-Some c =
    let others = c.self.inside.others.items in
    let at : slice_get others (length others - 1) ≡ Some c.in-Some.last.now =
    ap (λ xs. slice_get xs (length xs - 1)) (sym c.deref.ensures.value) ∙ sym c.in-Some.ensures.value in
    late-found c.self.inside.num_dense others c.args.self.now c.in-Some.last.now c.args.doc c.self.view_is at

pub returns-then-self-gt0 : goal.returns-then-self-gt0
returns-then-self-gt0 c =
    let others = c.self.inside.others.items in
    let none : slice_get others (length others - 1) ≡ None =
    ap (λ xs. slice_get xs (length xs - 1)) (sym c.deref.ensures.value) ∙ sym c.in-None.ensures.value in
    late-dense c.self.inside.num_dense others c.args.self.now c.args.doc c.self.view_is none c.if-self-gt0.true

pub returns-else-self-gt0 : goal.returns-else-self-gt0
returns-else-self-gt0 c =
    let others = c.self.inside.others.items in
    let none : slice_get others (length others - 1) ≡ None =
    ap (λ xs. slice_get xs (length xs - 1)) (sym c.deref.ensures.value) ∙ sym c.in-None.ensures.value in
    let zero : c.self.inside.num_dense ≡ 0 = omega arith in
    ap (λ k. nat_lt 0 k) zero ∙ late-none c.self.inside.num_dense others c.args.self.now c.args.doc c.self.view_is none zero
