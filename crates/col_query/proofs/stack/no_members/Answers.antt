use Rattle.std.proofs.Common.{sym, subst}
use Rattle.col_program.specs.Queries.{holds, no_queries}
use Rattle.col_query.specs.Sets.{IsSetOf}
use Rattle.col_questions.specs.Steps.{of_joint}
use Rattle.col_questions.specs.declared.step.Joint.{Joint}
use Rattle.col_query.proofs.stack.no_members.Goals as goal

pub returns-in-And : goal.returns-in-And
returns-in-And c =
    λ t.
    let P : Joint → Type 0 = λ j. IsSetOf t.row_count (holds t (of_joint j no_queries)) c.all.result in
    subst P (sym c.in-And.is) (c.all.ensures t.row_count)

pub returns-in-Or : goal.returns-in-Or
returns-in-Or c =
    λ t.
    let P : Joint → Type 0 = λ j. IsSetOf t.row_count (holds t (of_joint j no_queries)) c.none.result in
    subst P (sym c.in-Or.is) (c.none.ensures t.row_count)
