use Rattle.col_codecs.proofs.BlockReadingLemmas.{AreRead}
use Rattle.col_codecs.proofs.blockwise_linear.block.read_blocks.Given as goal

abbrev pub invariant-loop-block_id : goal.invariant-loop-block_id
invariant-loop-block_id l = AreRead l.count l.fn.lines l._block_id l.blocks.items l.lines
