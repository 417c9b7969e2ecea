-- The categories of column types as the definitions have them.
use Rattle.std.specs.Prelude.{ℕ}
use Rattle.col_model.specs.Category as categories
use Rattle.col_keys.specs.declared.column_type_category.ColumnTypeCategory.{ColumnTypeCategory}
use Rattle.col_keys.specs.declared.column_type_category.ColumnTypeCategory.TheVariants.{Numerical, Bytes, Str, Bool, IpAddr, DateTime}

-- the category that a variant stands for
abbrev pub category_seen : ColumnTypeCategory → categories.Category
category_seen Numerical = categories.numerical
category_seen Bytes = categories.bytes
category_seen Str = categories.str
category_seen Bool = categories.bool
category_seen IpAddr = categories.ip
category_seen DateTime = categories.datetime

-- its place among the categories
abbrev pub place_of : ColumnTypeCategory → ℕ
place_of c = categories.category_place (category_seen c)
