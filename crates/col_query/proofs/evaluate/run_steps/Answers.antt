use Rattle.std.proofs.Common.{◌≡◌, ◌+◌, ◌∷◌, ap, sym, ◌∙◌, drop, subst, arith}
use Rattle.std.proofs.lemmas.List.{drop_more, drop_all}
use Rattle.col_query.proofs.RunLemmas.{Leaves, leaves-next, leaves-last, leaves-some}
use Rattle.col_query.proofs.evaluate.run_steps.Goals as goal
use Rattle.col_questions.specs.Steps.{tree_of}

pub loop-step-preserved : goal.loop-step-preserved
loop-step-preserved g c =
    let a = c.args in
    let ss = a.steps.now in
    let at = c.loop-step.step-index in
    let s = c.step-item.result in
    let split : drop at ss ≡ s ∷ drop (at + 1) ss =
    drop_more ss at s (omega (arith, c.loop-step-test.true)) ∙ ap (λ s. s ∷ drop (at + 1) ss) (sym c.step-item.is) in
    let leaves : Leaves a.reader.now.keys a.columns.now (s ∷ drop (at + 1) ss) (tree_of ss) c.loop-step.sets.items =
    subst (λ left. Leaves a.reader.now.keys a.columns.now left (tree_of ss) c.loop-step.sets.items) split
    c.loop-step.invariant.leaves in
    record {
      leaves = leaves-next a.reader.now.keys a.columns.now s (drop (at + 1) ss) (tree_of ss) c.loop-step.sets.items
          c.take_step.new.sets.items leaves c.in_ok-take_step.ensures;
    }

pub returns-in-Some : goal.returns-in-Some
returns-in-Some g c =
    let a = c.args in
    let ss = a.steps.now in
    let at = c.loop-step.step-index in
    leaves-last a.reader.now.keys a.columns.now (tree_of ss) c.loop-step.sets.items c.pop.new.self.items c.in-Some.set
    (subst (λ left. Leaves a.reader.now.keys a.columns.now left (tree_of ss) c.loop-step.sets.items)
    (drop_all at ss (omega (arith, c.loop-step-test.false))) c.loop-step.invariant.leaves)
    c.in-Some.ensures.items

pub returns : goal.returns
returns g c =
    let a = c.args in
    let ss = a.steps.now in
    let at = c.loop-step.step-index in
    λ t opened.
    absurd (omega (
      arith,
      c.in-None.ensures.cases.0,
      leaves-some a.reader.now.keys a.columns.now (tree_of ss) c.loop-step.sets.items
          (subst (λ left. Leaves a.reader.now.keys a.columns.now left (tree_of ss) c.loop-step.sets.items)
          (drop_all at ss (omega (arith, c.loop-step-test.false))) c.loop-step.invariant.leaves) t opened,
    ))
