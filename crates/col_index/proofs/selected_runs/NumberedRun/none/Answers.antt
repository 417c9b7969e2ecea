use Rattle.std.proofs.Common.{arith}
use Rattle.col_index.proofs.selected_runs.NumberedRun.none.Goals as goal

pub returns : goal.returns
returns c = λ rows. record {
  fits = omega arith;
  reach = omega arith;
  follow = λ k from upto. absurd (omega (arith, from, upto));
}
