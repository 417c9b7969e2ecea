use Rattle.std.proofs.Common.{◌≡◌, ◌++◌, map, take}
use Rattle.col_order.specs.Orders.{address_of}
use Rattle.col_segments.proofs.compacting.push_rows.Given as goal

abbrev pub invariant-loop-row_id : goal.invariant-loop-row_id
invariant-loop-row_id l =
    map address_of l.rows.items ≡ map address_of l.fn.rows.items ++ map (λ r. (l.segment_ord, r)) (take l.row_id-index l.alive)
