use Rattle.col_codecs.specs.LinearParams.{bare_params}
use Rattle.col_codecs.proofs.BlockOffsetLemmas.{AreOffsets}
use Rattle.col_codecs.proofs.blockwise_linear.offsets.take_offsets.Given as goal

abbrev pub invariant-loop-at : goal.invariant-loop-at
invariant-loop-at l = AreOffsets (bare_params l.line) l.fn.vals l.vals l.at l.greatest
