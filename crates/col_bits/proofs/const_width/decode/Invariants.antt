use Rattle.std.proofs.Common.{◌≡◌, ◌+◌, ◌*◌, take, length}
use Rattle.col_bits.specs.Packed.{items}
use Rattle.col_bits.proofs.const_width.decode.Given as goal

-- the numbers so far
abbrev pub invariant-loop-g : goal.invariant-loop-g
invariant-loop-g g l = record {
  long : length l.block ≡ 64;
  so_far : take (8 * l.g) l.block ≡ items l.«data» g.row.W (8 * l.group) (8 * l.g);
}

abbrev pub invariant-loop-k : goal.invariant-loop-k
invariant-loop-k g l = record {
  long : length l.block ≡ 64;
  so_far : take (8 * l.g + l.k) l.block ≡ items l.«data» g.row.W (8 * l.group) (8 * l.g + l.k);
}
