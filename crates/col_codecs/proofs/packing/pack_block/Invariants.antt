use Rattle.std.proofs.Common.{take}
use Rattle.col_bits.proofs.PackingLemmas.{IsPacking}
use Rattle.col_codecs.proofs.packing.pack_block.Given as goal

abbrev pub invariant-loop-value : goal.invariant-loop-value
invariant-loop-value l = IsPacking l.initial.output.items l.num_bits (take l.value-index l.vals) l.packer l.output.items
