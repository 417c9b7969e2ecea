use Rattle.std.proofs.Common.{◌∙◌, arith}
use Rattle.std.proofs.lemmas.Result.{err_from_is_err_and}
use Rattle.col_common.proofs.SerializingLemmas.{serializes-as, serializes-stopped, serializes-then}
use Rattle.col_model.specs.Codecs.{blocks_of, steps_above}
use Rattle.col_codecs.specs.ColumnStats.{stats_seen}
use Rattle.col_codecs.proofs.PossibleLemmas.{IsPossible-stats_of}
use Rattle.col_codecs.proofs.BlockEstimateLemmas.{blockwise_body-parts}
use Rattle.col_codecs.proofs.BlockWritingLemmas.{blocks_bytes-parts}
use Rattle.col_codecs.proofs.blockwise_linear.writer.serialize_behind_codec.Goals as goal

pub serialize-requires : goal.serialize-requires
serialize-requires g c = IsPossible-stats_of (stats_seen c.args.stats.now) (g.I.Iterable.items c.args.vals.now) c.requires (omega arith)

pub returns-in_err-serialize_packed : goal.returns-in_err-serialize_packed
returns-in_err-serialize_packed g c =
    let p = err_from_is_err_and c.from_residual-in_err-serialize_packed.result c.from_residual-in_err-serialize_packed.ensures.1 in
    rw (p.1, p.2) (serializes-stopped _ _ _ _ _
    (serializes-then _ _ _ _ _ _ _ c.in_ok-serialize.ensures.ok c.in_err-serialize_packed.ensures.packed))

pub returns : goal.returns
returns g c =
    let s = stats_seen c.args.stats.now in
    let xs = g.I.Iterable.items c.args.vals.now in
    let blocks =
    serializes-as _ _ _ _ _ (serializes-then _ _ _ _ _ _ _ c.in_ok-serialize_packed.ensures.packed c.serialize_lines.ensures)
    (blocks_bytes-parts (blocks_of (steps_above s xs)) c.as_slice.result.now
    (c.as_slice.ensures ∙ c.in_ok-serialize_packed.ensures.lines)) in
    serializes-as _ _ _ _ _ (serializes-then _ _ _ _ _ _ _ c.in_ok-serialize.ensures.ok blocks) (blockwise_body-parts xs s c.requires)
