use Rattle.std.proofs.Common.{ap, map}
use Rattle.col_order.specs.Orders.{address_of}
use Rattle.col_order.proofs.MarkedLemmas.{order-within}
use Rattle.col_order.proofs.shuffle.ShuffleMergeOrder.alive.Goals as goal

pub alive_bitset-requires : goal.alive_bitset-requires
alive_bitset-requires c =
    order-within _ c.args.self.now c.args.segment c.index-num_rows.result.now _ c.self.view_is c.self.invariant c.requires
    c.index-num_rows.ensures (ap (map address_of) c.deref.ensures.value)
