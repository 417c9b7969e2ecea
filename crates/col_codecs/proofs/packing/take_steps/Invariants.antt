use Rattle.std.proofs.Common.{◌≡◌, ◌-◌, ◌/◌}
use Rattle.col_codecs.proofs.PackingLemmas.{replaced}
use Rattle.col_codecs.proofs.packing.take_steps.Given as goal

abbrev pub invariant-loop-at : goal.invariant-loop-at
invariant-loop-at l = l.vals ≡ replaced (λ x. (x - l.min_value) / l.gcd) l.initial.vals l.at

abbrev pub invariant-loop-at-else-gcd-eq1 : goal.invariant-loop-at-else-gcd-eq1
invariant-loop-at-else-gcd-eq1 l = l.vals ≡ replaced (λ x. (x - l.min_value) / l.gcd) l.initial.vals l.at
