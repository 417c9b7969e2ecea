use Rattle.std.proofs.Common.{refl}
use Rattle.col_codecs.proofs.LinearLemmas.{collected-ordered, finalized-few, finalized-raised}
use Rattle.col_codecs.proofs.linear.estimator.LinearCodecEstimator.raise.Goals as goal

pub overflow_sub-self : goal.overflow_sub-self
overflow_sub-self c = collected-ordered c.args.self.now c.requires.0 c.requires.1 c.if-self-lt-BLOCK_LEN.false

pub returns-then-self-lt-BLOCK_LEN : goal.returns-then-self-lt-BLOCK_LEN
returns-then-self-lt-BLOCK_LEN c = λ xs h. finalized-few c.args.self.now xs h c.if-self-lt-BLOCK_LEN.true

pub returns : goal.returns
returns c = λ xs h. finalized-raised c.args.self.now _ xs h c.if-self-lt-BLOCK_LEN.false refl refl refl c.compute_num_bits-self.ensures
