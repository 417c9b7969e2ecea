use Rattle.std.proofs.Common.{◌≡◌, map, take}
use Rattle.col_order.specs.Orders.{address_of}
use Rattle.col_tests_merges.proofs.value_merge.addresses.Given as goal

-- the rows that were passed are named
abbrev pub invariant-loop-row : goal.invariant-loop-row
invariant-loop-row l = map address_of l.addresses.items ≡ take l.row-index l.rows
