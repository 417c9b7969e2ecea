use Rattle.std.proofs.Common.{List, ◌∷◌, OnOk, refl, sym, ◌∙◌, subst}
use Rattle.col_program.specs.Queries.{Query, all, no_queries}
use Rattle.col_query.specs.Stacks.{AreSetsOf}
use Rattle.col_query.proofs.RunLemmas.{taken-as, join-taken}
use Rattle.col_query.proofs.evaluate.take_step.Goals as goal
use Rattle.col_questions.specs.Steps.{of_joint}
use Rattle.col_questions.specs.declared.step.Step.TheVariants as steps

pub returns-in-All : goal.returns-in-All
returns-in-All g c =
    λ t old new opened are e.
    let R : List Query → Type 0 = λ qs. OnOk c.put_set.result (AreSetsOf t qs c.put_set.new.sets.items) in
    subst R (taken-as c.args.step.now steps.All old new (all ∷ old) c.in-All.is e refl)
    (c.put_set.ensures t all old are (c.all.ensures t.row_count))

pub returns-in-Begin : goal.returns-in-Begin
returns-in-Begin g c =
    λ t old new opened are e.
    let q = of_joint c.in-Begin.joint no_queries in
    let R : List Query → Type 0 = λ qs. OnOk c.put_set-in-Begin.result (AreSetsOf t qs c.put_set-in-Begin.new.sets.items) in
    subst R (taken-as c.args.step.now (steps.Begin c.in-Begin.joint) old new (q ∷ old) c.in-Begin.is e refl)
    (c.put_set-in-Begin.ensures t q old are (c.no_members.ensures t))

pub returns-in-Join : goal.returns-in-Join
returns-in-Join g c =
    λ t old new opened are e.
    let same = opened.row_count ∙ sym c.num_docs.ensures in
    join-taken c.args.step.now c.in-Join.joint old new (λ qs. AreSetsOf t qs c.args.sets.now.items)
    (λ qs. OnOk c.join_top.result (AreSetsOf t qs c.join_top.new.sets.items)) c.in-Join.is
    (λ q p r qs has is. c.join_top.ensures t q p r qs same has is) are e
