use Rattle.std.proofs.Common.{◌≡◌, ◌*◌, drop, length, Ok}
use Rattle.col_common.specs.Serializing.{Serializes}
use Rattle.col_model.specs.Codecs.{steps_above}
use Rattle.col_codecs.specs.ColumnStats.{stats_seen}
use Rattle.col_codecs.proofs.BlockWritingLemmas.{packed_so_far, lines_so_far}
use Rattle.col_codecs.proofs.blockwise_linear.writer.serialize_packed.Given as goal

abbrev pub invariant-loop-block_id : goal.invariant-loop-block_id
invariant-loop-block_id g l =
    let xs = g.I.Iterable.items l.vals in
    let steps = steps_above (stats_seen l.stats) xs in
    record {
      stands : g.I.Iterable.stands l.vals l.at;
      left : g.I.Iterable.left l.vals l.at ≡ drop (512 * l._block_id) xs;
      written : Serializes (g.K.Sink.seen l.fn.sink) (g.K.Sink.seen l.sink) (Ok tt) (packed_so_far steps l._block_id);
      gathered : l.lines ≡ lines_so_far steps l._block_id;
      room : length l.block ≡ 512;
    }
