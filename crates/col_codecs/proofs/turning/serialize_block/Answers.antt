use Rattle.std.proofs.Common.{arith}
use Rattle.col_codecs.proofs.turning.serialize_block.Goals as goal

pub turn-requires-clause-takes : goal.turn-requires-clause-takes
turn-requires-clause-takes g c = c.requires.packable.taken

pub turn-requires-clause-count : goal.turn-requires-clause-count
turn-requires-clause-count g c = omega (arith, c.requires.packable.count)

pub pack_block-requires-clause-small : goal.pack_block-requires-clause-small
pack_block-requires-clause-small g c = rw c.turn.ensures c.requires.packable.small
