use Rattle.std.proofs.Common.{Some, map, option_map, sym, ap, ◌∙◌, subst}
use Rattle.col_lines.specs.RowOrders.{row_order_of}
use Rattle.col_order.specs.Orders.{address_of}
use Rattle.col_outcome.specs.Ordered.{TakesOrder}
use Rattle.col_outcome.proofs.TakenLemmas.{stack-taken, shuffle-taken}
use Rattle.col_outcome.proofs.order.merge_row_order.Goals as goal

pub returns-in-Some-Named : goal.returns-in-Some-Named
returns-in-Some-Named g c =
    rw (c.in-Some-Named.is, c.in-Some-Named.field-0-is) (shuffle-taken c.args.readers.now
    (map address_of c.in-Some-Named.rows.items) c.shuffled.result c.files_are_read.ensures c.shuffled.ensures)

pub returns-in-None : goal.returns-in-None
returns-in-None g c =
    rw c.in-None.is (stack-taken c.args.readers.now c.stacked.result c.files_are_read.ensures c.stacked.ensures)
