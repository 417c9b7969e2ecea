use Rattle.std.proofs.Common.{◌≡◌, take}
use Rattle.col_bits.specs.Packed.{items}
use Rattle.col_bits.proofs.bit_unpacker.BitUnpacker.read.Given as goal

-- what is written are the items so far
abbrev pub invariant-loop-i : goal.invariant-loop-i
invariant-loop-i g l = take l.i l.output ≡ items l.«data» l.self l.start l.i
