use Rattle.std.proofs.Common.{◌≡◌, ◌+◌}
use Rattle.col_codecs.proofs.PackingLemmas.{replaced}
use Rattle.col_codecs.proofs.bitpacked.raise.Given as goal

abbrev pub invariant-loop-at : goal.invariant-loop-at
invariant-loop-at l = l.steps ≡ replaced (λ k. l.min_value + k) l.initial.steps l.at
