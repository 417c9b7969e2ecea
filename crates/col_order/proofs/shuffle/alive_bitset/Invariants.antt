use Rattle.std.proofs.Common.{◌≡◌, map, take}
use Rattle.col_order.specs.Orders.{address_of, named_rows}
use Rattle.col_order.proofs.shuffle.alive_bitset.Given as goal

abbrev pub invariant-loop-addr : goal.invariant-loop-addr
invariant-loop-addr l = l.set ≡ named_rows (take l.addr-index (map address_of l.addrs)) l.segment l.num_rows
