use Rattle.std.proofs.Common.{arith}
use Rattle.col_codecs.proofs.EstimateLemmas.{linear_estimate-few, linear_estimate-enough}
use Rattle.col_codecs.proofs.linear.estimator.LinearCodecEstimatorColumnCodecEstimator.serialize.Goals as goal

pub returns-then-self-lt-BLOCK_LEN-clause-ok : goal.returns-then-self-lt-BLOCK_LEN-clause-ok
returns-then-self-lt-BLOCK_LEN-clause-ok g c =
    rw (linear_estimate-few (g.I.Iterable.items c.args.vals.now) (omega (arith, c.requires.collected.count))) tt

pub returns-clause-no_codec : goal.returns-clause-no_codec
returns-clause-no_codec g c =
    λ none. absurd
    (linear_estimate-enough (g.I.Iterable.items c.args.vals.now) (omega (arith, c.requires.collected.count)) none)
