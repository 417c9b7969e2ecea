use Rattle.std.proofs.Common.{IfOk, sym, subst}
use Rattle.col_query.specs.Sets.{IsSetOf}
use Rattle.col_query.specs.Stacks.{joint_holds}
use Rattle.col_questions.specs.declared.step.Joint.{Joint}
use Rattle.col_query.proofs.stack.joined_set.Goals as goal

pub returns-in-And : goal.returns-in-And
returns-in-And c =
    λ p q a b.
    let P : Joint → Type 0 = λ j. IfOk c.and.result (IsSetOf c.args.num_docs (λ d. joint_holds j (p d) (q d))) in
    subst P (sym c.in-And.is) (c.and.ensures p q a b)

pub returns-in-Or : goal.returns-in-Or
returns-in-Or c =
    λ p q a b.
    let P : Joint → Type 0 = λ j. IfOk c.either.result (IsSetOf c.args.num_docs (λ d. joint_holds j (p d) (q d))) in
    subst P (sym c.in-Or.is) (c.either.ensures p q a b)
