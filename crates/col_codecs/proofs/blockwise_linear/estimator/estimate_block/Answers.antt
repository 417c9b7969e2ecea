use Rattle.std.proofs.Common.{◌≤◌, ◌+◌, ◌*◌, arith}
use Rattle.col_model.specs.Codecs.{block_size}
use Rattle.col_model.proofs.BlockLaws.{vint_bytes-most}
use Rattle.col_codecs.specs.LinearParams.{params_seen}
use Rattle.col_codecs.proofs.BlockEstimateLemmas.{block_estimate-parts, block_estimate-bound}
use Rattle.col_codecs.proofs.blockwise_linear.estimator.estimate_block.Goals as goal

pub returns : goal.returns
returns c =
    let slope = params_seen c.train_offsets-params.result in
    block_estimate-parts c.args.vals.now slope c.num_bytes.result c.from.result c.div_ceil.result
    c.train_offsets-params.ensures.params c.num_bytes.ensures c.from.ensures c.div_ceil.ensures

small : (c : goal.After-div_ceil) → 1 + c.num_bytes.result + c.div_ceil.result ≤ 9 * block_size
small c = omega (arith, returns c, block_estimate-bound c.args.vals.now c.requires.small)

pub overflow_add-result : goal.overflow_add-result
overflow_add-result c =
    let line = c.train_offsets-params.result.line in
    omega (arith, c.num_bytes.ensures, vint_bytes-most line.slope, vint_bytes-most line.intercept)

pub overflow_add-result-2 : goal.overflow_add-result-2
overflow_add-result-2 c = omega (arith, small c)
