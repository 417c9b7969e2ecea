use Rattle.std.proofs.Common.{◌<◌, ◌++◌, ◌∷◌, [], Bool, cond, ap, ◌∙◌, arith}
use Rattle.col_query.proofs.MergeLemmas.{merge_more, merge_ends, merge_named, place_within}
use Rattle.col_query.proofs.lists.merge_docs.Goals as goal

pub returns-then-low-eq-NO_DOC : goal.returns-then-low-eq-NO_DOC
returns-then-low-eq-NO_DOC c =
    λ n p q h a b. merge_ends c.args.kept p q n 4294967296 c.args.left.now c.args.right.now c.docs.docs.items c.docs.i c.docs.j
    (omega arith) (c.docs.invariant.merged n p q h a b)
    (omega (arith, c.doc_at-x.ensures.value, c.min-low.ensures, c.if-low-eq-NO_DOC.true))
    (omega (arith, c.doc_at-y.ensures.value, c.min-low.ensures, c.if-low-eq-NO_DOC.true))

pub docs-preserved : goal.docs-preserved
docs-preserved c =
    let x = c.doc_at-x.result in
    let y = c.doc_at-y.result in
    let low = c.min-low.result in
    let inv = c.docs.invariant in
    let some : low < 4294967296 = omega (arith, c.min-low.ensures, c.doc_at-x.ensures.bound, c.if-low-eq-NO_DOC.false) in
    record {
      on_left = omega (
        arith,
        c.place_after-i.ensures,
        place_within c.docs.i x low 4294967296 _ inv.on_left c.doc_at-x.ensures.some some,
      );
      on_right = omega (
        arith,
        c.place_after-j.ensures,
        place_within c.docs.j y low 4294967296 _ inv.on_right c.doc_at-y.ensures.some some,
      );
      merged = λ n p q h a b.
          merge_named c.args.kept p q n c.args.left.now c.args.right.now _ _ _ _ _ _
          (merge_more c.args.kept p q n 4294967296 c.args.left.now c.args.right.now c.docs.docs.items c.docs.i c.docs.j x y low
          (omega arith) (inv.merged n p q h a b) c.doc_at-x.ensures.value c.doc_at-y.ensures.value c.min-low.ensures some)
          (c.in_ok-push_if.ensures
          ∙ ap (λ (k : Bool). c.docs.docs.items ++ cond k (low ∷ []) []) c.keeps-keep.ensures)
          c.place_after-i.ensures c.place_after-j.ensures;
    }
