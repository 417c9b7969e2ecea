use Rattle.col_codecs.proofs.BlockEstimateLemmas.{log2-zeros}
use Rattle.col_codecs.proofs.blockwise_linear.estimator.log2.Goals as goal

pub returns : goal.returns
returns c = log2-zeros c.args.value c.requires c.ranges.value.fits
