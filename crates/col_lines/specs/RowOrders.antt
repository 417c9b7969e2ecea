-- The orders of rows that lines say.
use Rattle.std.specs.Prelude.{map, string_bytes}
use Rattle.col_program.specs.Script as script
use Rattle.col_types.specs.Kinds.{kind_of}
use Rattle.col_order.specs.Orders.{address_of}
use Rattle.col_lines.specs.declared.row_order.SortKey.{SortKey}
use Rattle.col_lines.specs.declared.row_order.RowOrder.{RowOrder}
use Rattle.col_lines.specs.declared.row_order.RowOrder.TheVariants as orders

-- the column that rows are sorted by
abbrev pub sort_key_of : SortKey → script.SortKey
sort_key_of k = record {
  name = string_bytes k.name;
  column_type = kind_of k.column_type;
  reversed = k.reversed;
}

-- the order of rows
abbrev pub row_order_of : RowOrder → script.RowOrder
row_order_of (orders.Named rows) = script.named (map address_of rows.items)
row_order_of (orders.Sorted k) = script.sorted (sort_key_of k)
