use Rattle.std.proofs.Common.{◌<◌, ◌+◌, ◌^◌, arith}
use Rattle.col_codecs.proofs.FoundLemmas.{map_no_least}
use Rattle.col_codecs.proofs.PackingLemmas.{replaced-push, next-holds}
use Rattle.col_codecs.proofs.bitpacked.raise.Goals as goal

pub overflow_add-steps : goal.overflow_add-steps
overflow_add-steps c =
    omega (
      arith,
      next-holds (λ k. c.args.min_value + k < 2 ^ 64) (λ k. c.args.min_value + k) c.args.steps.now
          c.loop-at.steps c.loop-at.at c.loop-at.invariant (omega arith) c.requires,
    )

pub loop-at-preserved : goal.loop-at-preserved
loop-at-preserved c =
    replaced-push (λ k. c.args.min_value + k) c.args.steps.now c.loop-at.steps c.loop-at.at _ c.loop-at.invariant
    (omega arith) (omega arith)

pub returns-then-min_value-eq0 : goal.returns-then-min_value-eq0
returns-then-min_value-eq0 c = map_no_least c.args.min_value c.args.steps.now c.if-min_value-eq0.true
