use Rattle.std.proofs.Common.{◌≡◌, ◌≤◌, ◌-◌, length, take, get_or}
use Rattle.col_codecs.specs.BoundedItems.{ids_by}
use Rattle.col_codecs.proofs.bounded_items.push_within.Given as goal

-- the front of the block are the ids so far
abbrev pub invariant-loop-at : goal.invariant-loop-at
invariant-loop-at l = record {
  found : take l.found l.block ≡ ids_by (λ id. get_or l.vals (id - l.start) 0) l.low l.high l.start l.at;
  below : l.found ≤ l.at;
  room : length l.block ≡ length l.fn.block;
}
