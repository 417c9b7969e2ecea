use Rattle.std.proofs.Common.{◌∙◌, ap, Some, arith}
use Rattle.col_codecs.specs.ColumnStats.{stats_seen}
use Rattle.col_codecs.proofs.EstimateLemmas.{stats_bytes-bound}
use Rattle.col_codecs.proofs.PossibleLemmas.{IsPossible-stats_of}
use Rattle.col_codecs.proofs.BlockEstimateLemmas.{blocks-bound, blockwise_estimate-parts}
use Rattle.col_codecs.proofs.blockwise_linear.estimator.BlockwiseLinearEstimatorColumnCodecEstimator.estimate.Goals as goal

pub num_bytes-requires-clause-ordered : goal.num_bytes-requires-clause-ordered
num_bytes-requires-clause-ordered c = (IsPossible-stats_of (stats_seen c.args.stats.now) c.requires.0 c.requires.3 (omega arith)).ordered

pub num_bytes-requires-clause-positive : goal.num_bytes-requires-clause-positive
num_bytes-requires-clause-positive c = (IsPossible-stats_of (stats_seen c.args.stats.now) c.requires.0 c.requires.3 (omega arith)).positive

pub overflow_add-num_bytes : goal.overflow_add-num_bytes
overflow_add-num_bytes c = omega (arith, c.num_bytes.ensures, stats_bytes-bound (stats_seen c.args.stats.now))

pub overflow_add-num_bytes-2 : goal.overflow_add-num_bytes-2
overflow_add-num_bytes-2 c =
    omega (
      arith,
      c.num_bytes.ensures,
      stats_bytes-bound (stats_seen c.args.stats.now),
      c.requires.1,
      blocks-bound c.requires.0 c.requires.2,
    )

pub log2-requires : goal.log2-requires
log2-requires c = (IsPossible-stats_of (stats_seen c.args.stats.now) c.requires.0 c.requires.3 (omega arith)).positive

pub returns : goal.returns
returns c =
    λ xs h e. ap Some (blockwise_estimate-parts xs (stats_seen c.args.stats.now) c.num_bytes.result
    c.args.self.now.num_bytes c.from.result c.from-2.result c.saturating_sub.result e c.num_bytes.ensures h
    (c.from.ensures ∙ c.log2.ensures) c.from-2.ensures c.saturating_sub.ensures)
