use Rattle.std.proofs.Common.{◌≡◌, false, List, length, map}
use Rattle.std.specs.Vec.Iter.{into_iter_items, into_iter_len}
use Rattle.col_set_run.proofs.StepLemmas.{RunsFrom}
use Rattle.col_set_run.proofs.steps.run_steps.Given as goal
use Rattle.col_set_script.specs.SetScripts.{SetStep}
use Rattle.col_set_script.specs.Steps.{filled_step, step_of}

abbrev pub invariant-loop-step : goal.invariant-loop-step
invariant-loop-step g l =
    ((xs : List SetStep) → map filled_step xs ≡ map step_of l.fn.steps.items
    → RunsFrom g.D.Disk.seen l.fn.set l.set l.fn.out.items l.out.items xs (into_iter_items l.step-iterator))
    × ((l.set.failed ≡ false) × (into_iter_len l.step-iterator ≡ length (into_iter_items l.step-iterator)))
