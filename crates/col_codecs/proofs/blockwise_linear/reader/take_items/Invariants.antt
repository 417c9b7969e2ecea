use Rattle.std.proofs.Common.{◌≡◌, ◌+◌, ◌*◌, ◌%◌, ◌^◌}
use Rattle.col_codecs.proofs.PackingLemmas.{replaced}
use Rattle.col_codecs.proofs.blockwise_linear.reader.take_items.Given as goal

abbrev pub invariant-loop-at : goal.invariant-loop-at
invariant-loop-at l = l.steps ≡ replaced (λ k. (l.least + l.divisor * k) % 2 ^ 64) l.initial.steps l.at
