-- No failure was counted.
use Rattle.std.proofs.Common.{◌≡◌}
use Rattle.col_front.proofs.inputs.InputsSource.read.Given as goal

abbrev pub invariant-names : goal.invariant-names
invariant-names l = l.self.faults ≡ l.fn.self.faults
