-- Columns of the rows that an order picks from columns. States docs/RULES.md, Merged tables.
use Rattle.std.specs.Prelude.{◌≡◌, ℕ, true, false, List, [], map, Some, Result, OnOk}
use Rattle.col_common.specs.Outside.{SeenSink}
use Rattle.col_common.specs.Serializing.{Serializes, Stopped}
use Rattle.col_common.specs.declared.error.ColumnarError.{ColumnarError}
use Rattle.col_common.specs.declared.error.ColumnarError.TheVariants.{TooLarge}
use Rattle.col_model.specs.Column.{column}
use Rattle.col_model.specs.ColumnType.{ColumnType}
use Rattle.col_model.specs.Limits.{is_too_large, has_many_codes}
use Rattle.col_model.specs.Table.{Cell, Content}
use Rattle.col_model.specs.Version.{current_version}
use Rattle.col_order.specs.Orders.{picks_of}
use Rattle.col_order.specs.RowOrders.{order_of}
use Rattle.col_order.specs.declared.merge_row_order.MergeRowOrder.{MergeRowOrder}
use Rattle.col_index.specs.Indexes.{shape_of}
use Rattle.col_index.specs.declared.column_index.ColumnIndex.{ColumnIndex}
use Rattle.col_numbers.specs.NumValues.{num_values_of}
use Rattle.col_numbers.specs.declared.num_values.NumValues.{NumValues}
use Rattle.col_indexer.specs.Merged.{merged_cardinality}
use Rattle.col_column.specs.IpValues.{ip_values_of}
use Rattle.col_column.specs.declared.ip_values.IpValues.{IpValues}
use Rattle.col_column.specs.Written.{Refused}
use Rattle.col_merge_values.specs.Merges.{Merge, columns_by, merge_of, merged_rows}

-- indexes and lists of numbers, and an order over them
abbrev pub number_merge : {T : Type 0} → List ColumnIndex → List (NumValues T) → MergeRowOrder
    → Merge T
number_merge indexes values order =
    merge_of (columns_by (map shape_of indexes) (map num_values_of values)) (order_of order)

-- the same of addresses
abbrev pub address_merge : List ColumnIndex → List IpValues → MergeRowOrder → Merge ℕ
address_merge indexes values order =
    merge_of (columns_by (map shape_of indexes) (map ip_values_of values)) (order_of order)

-- what stands in a column of the picked rows, whose values are seen as cells
abbrev pub picked_content : {T : Type 0} → (T → Cell) → Merge T → Content
picked_content cell m = record {
  cardinality = merged_cardinality m.order m.columns.shapes;
  terms = [];
  rows = map (map cell) (merged_rows m.columns (picks_of m.order));
}

-- Where a column of this type and content is within the limits, Ok added bytes that stand for it,
-- of n rows, and a refusal has a cause; TooLarge comes exactly where it isn't, and before the first
-- byte but where addresses need too many codes.
pub record JoinsColumn (old new : SeenSink) (result : Result (Unit {0}) ColumnarError)
    (t : ColumnType) (n : ℕ) (content : Content) : Type 0 where
  pub bytes : List ℕ
  pub again : OnOk result (column bytes t current_version n ≡ Some content)
  pub written : is_too_large t content ≡ false → Serializes old new result bytes
  pub too_large : is_too_large t content ≡ true → Refused old new result TooLarge
  pub stopped : is_too_large t content ≡ true → has_many_codes t content.rows ≡ false
      → Stopped old new result TooLarge
