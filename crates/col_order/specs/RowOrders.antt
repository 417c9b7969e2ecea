-- Either order.
use Rattle.col_model.specs.Order.{Order, stack, shuffle}
use Rattle.col_order.specs.declared.merge_row_order.MergeRowOrder.{MergeRowOrder}
use Rattle.col_order.specs.declared.merge_row_order.MergeRowOrder.TheVariants.{Stack, Shuffled}

-- the order by its definition
abbrev pub order_of : MergeRowOrder → Order
order_of (Stack counts) = stack counts
order_of (Shuffled s) = shuffle s.counts s.addresses
