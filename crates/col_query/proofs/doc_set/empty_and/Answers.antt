use Rattle.std.proofs.Common.{Bool, ap, ◌∙◌}
use Rattle.col_query.specs.Sets.{docs_where, turn_over}
use Rattle.col_query.proofs.SetLemmas.{all_and_docs, none_and_docs}
use Rattle.col_query.proofs.doc_set.empty_and.Goals as goal

pub returns-then-is_all : goal.returns-then-is_all
returns-then-is_all c =
    λ n p q empty a b. all_and_docs n c.args.to_turn p q c.args.empty.items c.args.docs.items empty
    (a ∙ ap (λ (v : Bool). docs_where (λ d. turn_over v (p d)) n) c.if-is_all.true) b

pub returns : goal.returns
returns c =
    λ n p q empty a b. none_and_docs n p q c.args.empty.items empty
    (a ∙ ap (λ (v : Bool). docs_where (λ d. turn_over v (p d)) n) c.if-is_all.false)
