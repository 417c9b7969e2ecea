use Rattle.std.proofs.Common.{sym, ap, ◌∙◌, subst}
use Rattle.col_program.specs.Queries.{Query, holds}
use Rattle.col_query.specs.Sets.{IsSetOf}
use Rattle.col_query.proofs.RunLemmas.{listed-answer}
use Rattle.col_query.proofs.answers.documents_of.Goals as goal
use Rattle.col_questions.specs.Steps.{tree_of}

pub returns : goal.returns
returns g c =
    λ t opened.
    let q = tree_of c.args.query.now in
    let n = c.num_docs.result in
    let set = c.in_ok-set.set in
    let same = opened.row_count ∙ sym c.num_docs.ensures in
    let P : Query → Type 0 = λ q. IsSetOf n (holds t q) set in
    listed-answer (λ docs. docs.items) t q n c.into_list.result same (c.into_list.ensures (holds t q)
    (subst P (ap tree_of c.steps.ensures.value)
    (subst (λ m. IsSetOf m (holds t (tree_of c.steps.result.now)) set) same (c.in_ok-set.ensures t opened))))
