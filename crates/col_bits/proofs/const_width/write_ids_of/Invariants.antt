use Rattle.std.proofs.Common.{◌≡◌, ◌≤◌, ◌+◌, ◌*◌, ◌++◌, take}
use Rattle.col_bits.specs.Packed.{ids_between}
use Rattle.col_bits.proofs.const_width.write_ids_of.Given as goal

-- behind what was there stand the ids so far, and not more than were tested
abbrev pub invariant-loop-word : goal.invariant-loop-word
invariant-loop-word g l =
    let a = l.fn.asked in
    record {
      below : l.kept ≤ l.at + l.word * 64;
      front : take l.kept l.output
          ≡ take l.at l.fn.output ++ ids_between l.«data» g.row.W a.low (a.low + l.span) a.start (l.word * 64);
    }
