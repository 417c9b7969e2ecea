use Rattle.std.proofs.Common.{refl, ap, arith}
use Rattle.col_codecs.proofs.LinearLemmas.{collected-deviates, collected-first, collected-full}
use Rattle.col_codecs.proofs.linear.estimator.LinearCodecEstimator.take.Goals as goal

pub returns-then-self-ge-BLOCK_LEN : goal.returns-then-self-ge-BLOCK_LEN
returns-then-self-ge-BLOCK_LEN c =
    λ xs h. collected-deviates c.args.self.now _ xs c.args.value c.deviation_from-deviation.result h
    c.if-self-ge-BLOCK_LEN.true c.deviation_from-deviation.ensures refl refl refl c.min-self.ensures
    c.max-self.ensures

pub returns-else-self-eq-BLOCK_LEN : goal.returns-else-self-eq-BLOCK_LEN
returns-else-self-eq-BLOCK_LEN c = λ xs h. collected-first c.args.self.now _ xs c.args.value h (omega arith) refl refl

pub returns-then-self-eq-BLOCK_LEN : goal.returns-then-self-eq-BLOCK_LEN
returns-then-self-eq-BLOCK_LEN c =
    λ xs h. collected-full c.args.self.now c.train.new.self xs _ c.args.value h c.if-self-eq-BLOCK_LEN.true refl
    (ap (λ v. v.items) c.train.ensures.block) c.train.ensures.row_id c.train.ensures.trained
