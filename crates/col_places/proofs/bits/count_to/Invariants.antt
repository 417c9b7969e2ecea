use Rattle.std.proofs.Common.{◌≡◌, ◌*◌}
use Rattle.col_places.specs.Bits.{set_below}
use Rattle.col_places.proofs.bits.count_to.Given as goal

abbrev pub invariant-loop-at : goal.invariant-loop-at
invariant-loop-at l = l.count ≡ set_below l.words (64 * l.at)
