use Rattle.std.proofs.Common.{length}
use Rattle.col_codecs.proofs.TurningLemmas.{IsWritten}
use Rattle.col_codecs.proofs.turning.serialize_blocks.Given as goal

abbrev pub invariant-values : goal.invariant-values
invariant-values g l = record {
  stands : g.I.Iterable.stands l.vals l.at;
  written : IsWritten (g.T.Turn.turned l.turn) l.num_bits (g.I.Iterable.items l.vals) l.start
      (g.I.Iterable.left l.vals l.at) (g.K.Sink.seen l.fn.sink) (g.K.Sink.seen l.sink);
}

abbrev pub decreases-values : goal.decreases-values
decreases-values g l = length (g.I.Iterable.left l.vals l.at)
