use Rattle.std.proofs.Common.{◌≡◌, map, take, length}
use Rattle.col_order.specs.Orders.{address_of}
use Rattle.col_segments.specs.Live.{addresses, with_alive}
use Rattle.col_segments.proofs.compacting.alive_rows.Given as goal

abbrev pub invariant-loop-place : goal.invariant-loop-place
invariant-loop-place l = record {
  named : map address_of l.rows.items ≡ addresses (with_alive (take l.place l.held));
  counted : l.segment_ord ≡ length (with_alive (take l.place l.held));
}
