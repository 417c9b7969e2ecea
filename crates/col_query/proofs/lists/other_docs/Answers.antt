use Rattle.std.proofs.Common.{ℕ, ◌+◌, ◌++◌, ◌∷◌, [], cond, not, eqb, ap, ◌∙◌, arith}
use Rattle.col_query.proofs.MergeLemmas.{leaving_more, leaving_named, flag_counts}
use Rattle.col_query.proofs.lists.other_docs.Goals as goal

pub loop-doc-preserved : goal.loop-doc-preserved
loop-doc-preserved c =
    let x = c.doc_at.result in
    let doc = c.loop-doc.doc in
    let inv = c.loop-doc.invariant in
    record {
      within = omega (arith, c.place_after-place.ensures, flag_counts (eqb x c.from.result), inv.within);
      leaves = λ p e.
          leaving_named p c.args.num_docs (doc + 1) _ _ c.args.docs.now _ _
          (leaving_more p c.args.num_docs 4294967296 doc c.loop-doc.place x c.args.docs.now c.loop-doc.others.items
          (omega arith) (omega arith) (inv.leaves p e) c.doc_at.ensures.value)
          (c.in_ok-push_if.ensures
          ∙ ap (λ (d : ℕ). c.loop-doc.others.items ++ cond (not (eqb x d)) (doc ∷ []) []) c.from.ensures)
          (c.place_after-place.ensures ∙ ap (λ (d : ℕ). c.loop-doc.place + cond (eqb x d) 1 0) c.from.ensures);
    }
