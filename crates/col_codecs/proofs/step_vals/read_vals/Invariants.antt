use Rattle.std.proofs.Common.{◌≡◌, ◌+◌, ◌*◌, map, take}
use Rattle.col_bits.specs.Packed.{item}
use Rattle.col_codecs.proofs.step_vals.read_vals.Given as goal

-- what is written is what was asked for
abbrev pub invariant-loop-at : goal.invariant-loop-at
invariant-loop-at l = take l.at l.output ≡ map (λ i. l.min_value + l.gcd * item l.bytes l.bit_unpacker i) (take l.at l.indexes)
