use Rattle.std.proofs.Common.{◌≡◌, ◌+◌, ◌*◌, ◌++◌, take}
use Rattle.col_bits.specs.Packed.{items}
use Rattle.col_bits.proofs.const_width.read_groups.Given as goal

-- behind what was there stand the numbers so far
abbrev pub invariant-loop-g : goal.invariant-loop-g
invariant-loop-g g l = take (l.at + 8 * l.g) l.output ≡ take l.at l.fn.output ++ items l.«data» g.row.W (8 * l.group) (8 * l.g)

abbrev pub invariant-loop-k : goal.invariant-loop-k
invariant-loop-k g l =
    take (l.at + (8 * l.g + l.k)) l.output
    ≡ take l.at l.fn.output ++ items l.«data» g.row.W (8 * l.group) (8 * l.g + l.k)
