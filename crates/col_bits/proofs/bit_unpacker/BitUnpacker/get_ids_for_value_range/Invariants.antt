use Rattle.std.proofs.Common.{◌≡◌, ◌≤◌, ◌-◌, max}
use Rattle.col_bits.specs.Packed.{ids_between}
use Rattle.col_bits.proofs.bit_unpacker.BitUnpacker.get_ids_for_value_range.Given as goal

-- what is found are the ids of the blocks so far; with reversed ends there is no block
abbrev pub invariant-loop-from : goal.invariant-loop-from
invariant-loop-from l =
    let start = l.fn.ids.start in
    record {
      found : l.positions.items ≡ ids_between l.«data» l.self l.low l.high start (l.from - start);
      begun : start ≤ l.from;
      within : l.from ≤ max start l.ids.end;
    }

abbrev pub decreases-loop-from : goal.decreases-loop-from
decreases-loop-from l = l.ids.end - l.from
