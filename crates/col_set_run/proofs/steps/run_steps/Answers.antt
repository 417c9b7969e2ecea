use Rattle.std.proofs.Common.{◌≡◌, ◌∙◌, ◌∷◌, length, map, sym, ap, subst, arith}
use Rattle.std.specs.Vec.Iter.{into_iter_items}
use Rattle.std.proofs.lemmas.Result.{err_from_is_err_and}
use Rattle.col_set_run.proofs.StepLemmas.{RunsFrom, IsNext, next-step, none-left, runs-none, runs-more, runs-refused, runs-all}
use Rattle.col_set_run.proofs.steps.run_steps.Goals as goal
use Rattle.col_set_script.specs.Steps.{step_of}

pub loop-step-init : goal.loop-step-init
loop-step-init g c =
    let see = g.D.Disk.seen in
    let set = c.args.set.now in
    let gives = c.into_iter-step-iterator.ensures.into_iter_gives in
    let many = ap length gives.0 in
    let long = gives.1 in (
      λ xs fits. runs-none see set c.args.out.now.items xs (into_iter_items c.into_iter-step-iterator.result)
          (fits ∙ sym (ap (map step_of) gives.0)) c.requires c.tell.ensures.only_now (c.tell.ensures.stands c.requires),
      (c.requires, omega (arith, many, long, c.args.steps.ok.0)),
    )

pub loop-step-preserved : goal.loop-step-preserved
loop-step-preserved g c =
    let see = g.D.Disk.seen in
    let at = c.loop-step in
    let x = c.in-Some.step in
    let left = into_iter_items c.next.new.self in
    let steps : into_iter_items at.step-iterator ≡ x ∷ left = c.in-Some.ensures.steps.0 in
    let gone = c.in-Some.ensures.steps.1 in
    let short = ap length steps in
    let new = c.take_step.new.set in
    let works = c.in_ok-take_step.ensures.works in (
      λ xs fits.
          let was = subst (RunsFrom see c.args.set.now at.set c.args.out.now.items at.out.items xs) steps (at.invariant.0 xs fits) in
          let n : IsNext was.rest x left = next-step was.rest x left was.fits in
          runs-more see c.args.set.now at.set new c.args.out.now.items at.out.items c.take_step.new.out.items xs x left was n works
          (c.in_ok-take_step.ensures.takes n.first n.fits),
      (works, omega (arith, short, gone, at.invariant.1.1)),
    )

pub returns-in_err-take_step-clause-runs : goal.returns-in_err-take_step-clause-runs
returns-in_err-take_step-clause-runs g c =
    let see = g.D.Disk.seen in
    let at = c.loop-step in
    let x = c.in-Some.step in
    let left = into_iter_items c.next.new.self in
    let steps : into_iter_items at.step-iterator ≡ x ∷ left = c.in-Some.ensures.steps.0 in
    let p = err_from_is_err_and c.from_residual.result c.from_residual.ensures.1 in
    λ xs fits.
    let was = subst (RunsFrom see c.args.set.now at.set c.args.out.now.items at.out.items xs) steps (at.invariant.0 xs fits) in
    let n : IsNext was.rest x left = next-step was.rest x left was.fits in
    rw (p.1, p.2) (runs-refused see c.args.set.now at.set c.take_step.new.set c.args.out.now.items at.out.items
    c.take_step.new.out.items xs x left was n c.in_err-take_step.field-0.0 (c.in_err-take_step.ensures.takes n.first n.fits))

pub returns-clause-runs : goal.returns-clause-runs
returns-clause-runs g c =
    let see = g.D.Disk.seen in
    let at = c.loop-step in
    λ xs fits.
    let none = none-left (into_iter_items at.step-iterator) (sym at.invariant.1.1 ∙ c.in-None.ensures.steps.0) in
    let was = subst (RunsFrom see c.args.set.now at.set c.args.out.now.items at.out.items xs) none
    (at.invariant.0 xs fits) in
    runs-all see c.args.set.now at.set c.args.out.now.items at.out.items xs was
