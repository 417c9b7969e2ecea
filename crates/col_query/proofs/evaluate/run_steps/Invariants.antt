use Rattle.std.proofs.Common.{drop}
use Rattle.col_query.proofs.RunLemmas.{Leaves}
use Rattle.col_query.proofs.evaluate.run_steps.Given as goal
use Rattle.col_questions.specs.Steps.{tree_of}

-- the sets stand for queries of which the steps that are left make the one of all
abbrev pub invariant-loop-step : goal.invariant-loop-step
invariant-loop-step g l = record {
  leaves : Leaves l.reader.keys l.columns (drop l.step-index l.steps) (tree_of l.fn.steps) l.sets.items;
}
