use Rattle.std.proofs.Common.{◌≡◌, ◌≤◌, map, take, length}
use Rattle.std.specs.List.{range_with_len}
use Rattle.col_merge_slot.specs.Kept.{keeps, AreSet}
use Rattle.col_merge_slot.proofs.kept.note_named.Given as goal

-- the flags of the rows that were passed, of which the first ones are set
abbrev pub invariant-loop-addr : goal.invariant-loop-addr
invariant-loop-addr l = record {
  flags : l.kept ≡ map (keeps l.columns (take l.addr-index l.order.addresses)) (range_with_len 0 (length l.columns));
  within : l.unset ≤ length l.kept;
  set : AreSet l.kept l.unset;
}
