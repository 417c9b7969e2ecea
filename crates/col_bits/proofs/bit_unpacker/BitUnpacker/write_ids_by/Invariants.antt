use Rattle.std.proofs.Common.{◌≡◌, ◌≤◌, ◌++◌, ◌+◌, ◌-◌, take}
use Rattle.col_bits.specs.Packed.{ids_between}
use Rattle.col_bits.proofs.bit_unpacker.BitUnpacker.write_ids_by.Given as goal

-- behind what was there stand the ids so far, and not more than were tested
abbrev pub invariant-loop-id : goal.invariant-loop-id
invariant-loop-id g l =
    let a = l.fn.asked in
    record {
      below : l.kept + a.start ≤ l.at + l.id;
      front : take l.kept l.output
          ≡ take l.at l.fn.output ++ ids_between l.«data» l.self a.low a.high a.start (l.id - a.start);
    }
