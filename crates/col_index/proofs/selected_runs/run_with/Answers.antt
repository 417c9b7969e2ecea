use Rattle.std.proofs.Common.{◌≡◌, ◌+◌, ◌<◌, slice_index, subst, arith}
use Rattle.col_index.proofs.selected_runs.run_with.Goals as goal

pub returns-clause-upto : goal.returns-clause-upto
returns-clause-upto c =
    let next : c.loop-high.high ≡ c.loop-high.low + 1 = omega arith in
    subst (λ k. c.args.rank < slice_index c.args.before.now k) next c.loop-high.invariant.upto
