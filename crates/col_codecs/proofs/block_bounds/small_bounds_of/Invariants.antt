use Rattle.col_codecs.proofs.BoundLemmas.{AreSoFar}
use Rattle.col_codecs.proofs.block_bounds.small_bounds_of.Given as goal

abbrev pub invariant-loop-value : goal.invariant-loop-value
invariant-loop-value l = AreSoFar l.vals l.value-index l.least l.greatest
