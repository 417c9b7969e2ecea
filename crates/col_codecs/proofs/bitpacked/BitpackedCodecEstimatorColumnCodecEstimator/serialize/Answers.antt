use Rattle.std.proofs.Common.{◌∙◌, ap, arith}
use Rattle.col_common.proofs.SerializingLemmas.{serializes-as, serializes-then}
use Rattle.col_bits.specs.Packed.{width}
use Rattle.col_codecs.specs.ColumnStats.{stats_seen}
use Rattle.col_codecs.proofs.BitpackedWritingLemmas.{steps-packable, body-bytes}
use Rattle.col_codecs.proofs.PossibleLemmas.{IsPossible-stats_of}
use Rattle.col_codecs.proofs.bitpacked.BitpackedCodecEstimatorColumnCodecEstimator.serialize.Goals as goal

pub serialize-requires : goal.serialize-requires
serialize-requires g c =
    IsPossible-stats_of (stats_seen c.args.stats.now) (g.I.Iterable.items c.args.vals.now) c.requires.stats
    (omega arith)

pub steps-requires-clause-ordered : goal.steps-requires-clause-ordered
steps-requires-clause-ordered g c =
    (IsPossible-stats_of (stats_seen c.args.stats.now) (g.I.Iterable.items c.args.vals.now) c.requires.stats
    (omega arith)).ordered

pub steps-requires-clause-positive : goal.steps-requires-clause-positive
steps-requires-clause-positive g c =
    (IsPossible-stats_of (stats_seen c.args.stats.now) (g.I.Iterable.items c.args.vals.now) c.requires.stats
    (omega arith)).positive

pub serialize_turned-requires-clause-packable : goal.serialize_turned-requires-clause-packable
serialize_turned-requires-clause-packable g c =
    steps-packable (stats_seen c.args.stats.now) (g.I.Iterable.items c.args.vals.now)
    c.compute_num_bits-num_bits.result c.requires.stats (omega arith) c.requires.count
    (c.compute_num_bits-num_bits.ensures ∙ ap width c.steps.ensures)

pub returns-clause-ok : goal.returns-clause-ok
returns-clause-ok g c =
    let s = stats_seen c.args.stats.now in
    let xs = g.I.Iterable.items c.args.vals.now in
    serializes-as _ _ _ _ _ (serializes-then _ _ _ _ _ _ _ c.in_ok-serialize.ensures.ok c.serialize_turned.ensures)
    (body-bytes s xs c.compute_num_bits-num_bits.result c.requires.stats (c.compute_num_bits-num_bits.ensures ∙ ap width c.steps.ensures))
