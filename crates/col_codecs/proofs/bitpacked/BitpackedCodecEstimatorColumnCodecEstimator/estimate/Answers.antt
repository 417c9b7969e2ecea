use Rattle.std.proofs.Common.{◌≡◌, ◌≤◌, ◌+◌, ◌*◌, ◌^◌, ◌∙◌, ap, arith, Some}
use Rattle.std.specs.Int.{div_ceil}
use Rattle.col_bits.specs.Packed.{width}
use Rattle.col_model.specs.Stats.{steps_of}
use Rattle.col_codecs.specs.ColumnStats.{stats_seen}
use Rattle.col_codecs.proofs.PossibleLemmas.{IsPossible-stats_of}
use Rattle.col_codecs.proofs.EstimateLemmas.{stats_bytes-bound, bits-fit}
use Rattle.col_codecs.proofs.WidthLemmas.{width-bound}
use Rattle.col_codecs.proofs.BitpackedWritingLemmas.{estimated}
use Rattle.col_codecs.proofs.bitpacked.BitpackedCodecEstimatorColumnCodecEstimator.estimate.Goals as goal

pub steps-requires-clause-ordered : goal.steps-requires-clause-ordered
steps-requires-clause-ordered c = (IsPossible-stats_of (stats_seen c.args.stats.now) c.requires.0 c.requires.3 (omega arith)).ordered

pub steps-requires-clause-positive : goal.steps-requires-clause-positive
steps-requires-clause-positive c = (IsPossible-stats_of (stats_seen c.args.stats.now) c.requires.0 c.requires.3 (omega arith)).positive

pub num_bytes-requires-clause-ordered : goal.num_bytes-requires-clause-ordered
num_bytes-requires-clause-ordered c = (IsPossible-stats_of (stats_seen c.args.stats.now) c.requires.0 c.requires.3 (omega arith)).ordered

pub num_bytes-requires-clause-positive : goal.num_bytes-requires-clause-positive
num_bytes-requires-clause-positive c = (IsPossible-stats_of (stats_seen c.args.stats.now) c.requires.0 c.requires.3 (omega arith)).positive

pub overflow_add-result : goal.overflow_add-result
overflow_add-result c =
    let narrow : c.from-2.result ≤ 64 = omega (arith, c.from-2.ensures, c.compute_num_bits-num_bits.ensures, width-bound c.steps.result) in
    let bits : c.from.result * c.from-2.result ≤ 2 ^ 38 = bits-fit c.from.result c.from-2.result (omega (arith, c.from.ensures)) narrow in
    omega (arith, bits, c.div_ceil.ensures, c.num_bytes.ensures, stats_bytes-bound (stats_seen c.args.stats.now))

pub returns : goal.returns
returns c xs done e =
    let s = stats_seen c.args.stats.now in
    let w : c.compute_num_bits-num_bits.result ≡ width (steps_of s) = c.compute_num_bits-num_bits.ensures ∙ ap width c.steps.ensures in
    let bytes : c.div_ceil.result ≡ div_ceil (s.count * c.compute_num_bits-num_bits.result) 8 =
    c.div_ceil.ensures ∙ ap (λ n. div_ceil (n * c.from-2.result) 8) c.from.ensures ∙ ap (λ v. div_ceil (s.count * v) 8) c.from-2.ensures in
    ap Some (ap (λ n. c.num_bytes.result + n) bytes
    ∙ estimated s xs c.num_bytes.result c.compute_num_bits-num_bits.result e c.num_bytes.ensures w)
