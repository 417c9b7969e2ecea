use Rattle.std.proofs.Common.{List, Some, sym, ap, ◌∙◌}
use Rattle.serde_json.specs.View.{view}
use Rattle.col_program.specs.Queries.{query_of}
use Rattle.col_questions.specs.Steps.{tree_of}
use Rattle.col_questions.specs.declared.step.Step.{Step}
use Rattle.col_questions.proofs.StepLemmas.{read_whole}
use Rattle.col_questions.proofs.parse.parse_query.Goals as goal

pub from_steps-requires : goal.from_steps-requires
from_steps-requires c = (read_whole (query_of (view c.args.value.now)) c.new-steps.result.items c.push_query.new.steps.items
    c.new-steps.ensures.items c.in_ok-push_query.ensures.ok).1

pub returns-clause-ok : goal.returns-clause-ok
returns-clause-ok c =
    (read_whole (query_of (view c.args.value.now)) c.new-steps.result.items c.push_query.new.steps.items
    c.new-steps.ensures.items c.in_ok-push_query.ensures.ok).0
    ∙ ap (λ (ss : List Step). Some (tree_of ss)) (sym c.from_steps.ensures)
