use Rattle.std.proofs.Common.{◌≡◌, length, sym, ◌∙◌, arith}
use Rattle.std.proofs.lemmas.Bool.{eqb-true}
use Rattle.col_query.specs.Sets.{turn_over, is_kept}
use Rattle.col_query.proofs.SetLemmas.{merged_both, set_swapped}
use Rattle.col_query.proofs.doc_set.and_lists.Goals as goal
use Rattle.col_model.proofs.U64ListLaws.{no_count}

pub returns-then-is_empty-2 : goal.returns-then-is_empty-2
returns-then-is_empty-2 c =
    λ p q a b.
    let none : length c.args.right.items ≡ 0 = omega (arith, eqb-true _ _ (sym c.if-is_empty-2.ensures), c.args.right.ok) in
    set_swapped c.args.num_docs p q c.empty_and-then-is_empty-2.result
    (c.empty_and-then-is_empty-2.ensures c.args.num_docs q p (no_count c.args.right.items none) b a)

pub returns : goal.returns
returns c =
    λ p q a b.
    let n = c.args.num_docs in
    let lt = c.args.left_turned in
    let rt = c.args.right_turned in
    merged_both n lt rt c.are_both.result c.kept_of.result p q c.in_ok-docs.docs c.kept_of.ensures c.are_both.ensures
    (c.in_ok-docs.ensures (λ d. is_kept c.kept_of.result (turn_over lt (p d)) (turn_over rt (q d)))
    (c.in_ok-merged.ensures n (λ d. turn_over lt (p d)) (λ d. turn_over rt (q d)) (omega arith)
    (c.deref.ensures.value ∙ a) (c.deref-2.ensures.value ∙ b)))
