use Rattle.std.proofs.Common.{◌+◌, ◌*◌, ◌≤◌, ◌<◌, ◌^◌, length, ap, ◌∙◌, sym, arith}
use Rattle.std.specs.Int.{div_ceil}
use Rattle.col_model.specs.Codecs.{block_size, packed_len}
use Rattle.col_model.proofs.BlockLaws.{vint_bytes-most}
use Rattle.col_codecs.specs.ColumnStats.{stats_seen}
use Rattle.col_codecs.specs.LinearParams.{params_seen}
use Rattle.col_codecs.proofs.PossibleLemmas.{IsPossible-stats_of}
use Rattle.col_codecs.proofs.EstimateLemmas.{stats_bytes-bound, linear_width, bits-fit, linear_estimate-few, linear_estimate-parts}
use Rattle.col_codecs.proofs.linear.estimator.LinearCodecEstimatorColumnCodecEstimator.estimate.Goals.{After-num_bytes-2, After-from-2, After-div_ceil}
use Rattle.col_codecs.proofs.linear.estimator.LinearCodecEstimatorColumnCodecEstimator.estimate.Goals as goal

few_bits : (c : After-from-2) → c.from.result * c.from-2.result ≤ 2 ^ 38
few_bits c =
    let h = c.requires.1 in
    let enough : block_size ≤ length c.requires.0 = omega (arith, h.count) in
    let width = linear_width (params_seen c.args.self.now.linear_params) c.requires.0 (h.final enough) in
    bits-fit c.from.result c.from-2.result (omega (arith, c.from.ensures, h.count)) (omega (arith, c.from-2.ensures, width))

said_bytes : (c : After-num_bytes-2) → c.num_bytes.result + c.num_bytes-2.result < 2 ^ 39
said_bytes c =
    omega (
      arith,
      c.num_bytes.ensures,
      c.num_bytes-2.ensures,
      stats_bytes-bound (stats_seen c.args.stats.now),
      vint_bytes-most c.args.self.now.linear_params.line.slope,
      vint_bytes-most c.args.self.now.linear_params.line.intercept,
    )

few_bytes : (c : After-div_ceil) → c.num_bytes.result + c.num_bytes-2.result + 1 + c.div_ceil.result < 2 ^ 40
few_bytes c =
    omega (arith, few_bits (goal.at.returns c).After-from-2, said_bytes (goal.at.returns c).After-num_bytes-2, c.div_ceil.ensures)

pub returns-then-self-lt-BLOCK_LEN : goal.returns-then-self-lt-BLOCK_LEN
returns-then-self-lt-BLOCK_LEN c = λ xs h e. sym (linear_estimate-few xs (omega (arith, h.count)))

pub overflow_mul-packed_bits : goal.overflow_mul-packed_bits
overflow_mul-packed_bits c = omega (arith, few_bits (goal.at.overflow_mul-packed_bits c).After-from-2)

pub num_bytes-requires-clause-ordered : goal.num_bytes-requires-clause-ordered
num_bytes-requires-clause-ordered c = (IsPossible-stats_of (stats_seen c.args.stats.now) c.requires.0 c.requires.3 (omega arith)).ordered

pub num_bytes-requires-clause-positive : goal.num_bytes-requires-clause-positive
num_bytes-requires-clause-positive c = (IsPossible-stats_of (stats_seen c.args.stats.now) c.requires.0 c.requires.3 (omega arith)).positive

pub overflow_add-result : goal.overflow_add-result
overflow_add-result c = omega (arith, said_bytes (goal.at.overflow_add-result c).After-num_bytes-2)

pub overflow_add-result-2 : goal.overflow_add-result-2
overflow_add-result-2 c = omega (arith, said_bytes (goal.at.overflow_add-result-2 c).After-num_bytes-2)

pub overflow_add-result-3 : goal.overflow_add-result-3
overflow_add-result-3 c = omega (arith, few_bytes c)

pub returns : goal.returns
returns c = λ xs h e.
    let own = params_seen c.args.self.now.linear_params in
    let enough : block_size ≤ length xs = omega (arith, h.count) in
    linear_estimate-parts xs (stats_seen c.args.stats.now) own c.args.self.now.row_id c.num_bytes.result
    c.num_bytes-2.result c.div_ceil.result enough h.count e (h.final enough) c.num_bytes.ensures
    c.num_bytes-2.ensures
    (c.div_ceil.ensures ∙ ap (λ n. div_ceil (n * c.from-2.result) 8) c.from.ensures
    ∙ ap (λ w. packed_len c.args.self.now.row_id w) c.from-2.ensures)
