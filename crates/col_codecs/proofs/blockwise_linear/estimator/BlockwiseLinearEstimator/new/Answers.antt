use Rattle.std.proofs.Common.{[], refl, arith}
use Rattle.col_model.specs.Codecs.{cut_blocks}
use Rattle.col_codecs.proofs.blockwise_linear.estimator.BlockwiseLinearEstimator.new.Goals as goal

pub returns : goal.returns
unfolding cut_blocks
returns c =
    record {
      whole = [];
      count = 0;
      long = omega arith;
      split = refl;
      estimated = refl;
      room = omega (arith, c.in_ok-vec.ensures.len);
      short = omega arith;
    }
