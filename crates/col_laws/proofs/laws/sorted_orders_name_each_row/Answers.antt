use Rattle.col_laws.proofs.SortLemmas.{sorted-orders-name-each-row}
use Rattle.col_laws.proofs.laws.sorted_orders_name_each_row.Goals as goal

pub returns : goal.returns
returns c = sorted-orders-name-each-row
