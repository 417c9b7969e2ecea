-- Keys of the first values of columns.
use Rattle.std.specs.Prelude.{◌≡◌, ℕ, ℤ, pos, Bool, List, [], ◌∷◌, length, replicate, slice_get, slice_index_or, unwrap_or, option_map, Option, Some, None, IfSome, IsPermutation}
use Rattle.std.specs.List.{AllByRecursion}
use Rattle.col_model.specs.Category.{Category}
use Rattle.col_model.specs.ColumnType.{ColumnType}
use Rattle.col_model.specs.Lookup.{row_of}
use Rattle.col_model.specs.Order.{all_rows}
use Rattle.col_model.specs.Sorted.{sorted_items}
use Rattle.col_model.specs.SortOrder.{are_keys_in_order}
use Rattle.col_model.specs.Table.{Cell}
use Rattle.col_numbers.specs.NumValues.{num_values_of}
use Rattle.col_column.specs.Columns.{rows_of_values}
use Rattle.col_column.specs.IpValues.{ip_values_of}
use Rattle.col_dynamic.specs.Dynamic.{content_of, type_of}
use Rattle.col_dynamic.specs.declared.dynamic_column.DynamicColumn.{DynamicColumn}
use Rattle.col_dynamic.specs.declared.dynamic_column.DynamicColumn.TheVariants as columns
use Rattle.col_merge_slot.specs.Segments.{IsOfCategory}
use Rattle.col_sort.specs.Firsts.{first_keys}

-- the cell that a row of segments begins with, where it has one
abbrev pub first_in : List (Option DynamicColumn) → ℕ × ℕ → Option Cell
first_in os a = slice_get
    (unwrap_or (option_map (λ c. row_of (content_of c) a.1) (slice_index_or os a.0 None)) []) 0

-- no key for each row of a column
abbrev pub no_keys : {K : Type 0} → DynamicColumn → List (Option K)
no_keys c = replicate (length (content_of c).rows) None

-- a column's numbers
abbrev pub number_keys : DynamicColumn → List (Option ℤ)
number_keys (columns.I64 c) = first_keys (λ z. z) (rows_of_values num_values_of c)
number_keys (columns.U64 c) = first_keys pos (rows_of_values num_values_of c)
number_keys (columns.Bool c) = no_keys (columns.Bool c)
number_keys (columns.IpAddr c) = no_keys (columns.IpAddr c)
number_keys (columns.DateTime c) = no_keys (columns.DateTime c)
number_keys (columns.Bytes c) = no_keys (columns.Bytes c)
number_keys (columns.Str c) = no_keys (columns.Str c)

-- the numbers of a column of u64
abbrev pub unsigned_keys : DynamicColumn → List (Option ℕ)
unsigned_keys (columns.U64 c) = first_keys (λ n. n) (rows_of_values num_values_of c)
unsigned_keys (columns.I64 c) = no_keys (columns.I64 c)
unsigned_keys (columns.Bool c) = no_keys (columns.Bool c)
unsigned_keys (columns.IpAddr c) = no_keys (columns.IpAddr c)
unsigned_keys (columns.DateTime c) = no_keys (columns.DateTime c)
unsigned_keys (columns.Bytes c) = no_keys (columns.Bytes c)
unsigned_keys (columns.Str c) = no_keys (columns.Str c)

-- those of a column of i64
abbrev pub signed_keys : DynamicColumn → List (Option ℤ)
signed_keys (columns.I64 c) = first_keys (λ z. z) (rows_of_values num_values_of c)
signed_keys (columns.U64 c) = no_keys (columns.U64 c)
signed_keys (columns.Bool c) = no_keys (columns.Bool c)
signed_keys (columns.IpAddr c) = no_keys (columns.IpAddr c)
signed_keys (columns.DateTime c) = no_keys (columns.DateTime c)
signed_keys (columns.Bytes c) = no_keys (columns.Bytes c)
signed_keys (columns.Str c) = no_keys (columns.Str c)

-- its flags
abbrev pub bool_keys : DynamicColumn → List (Option Bool)
bool_keys (columns.Bool c) = first_keys (λ b. b) (rows_of_values num_values_of c)
bool_keys (columns.I64 c) = no_keys (columns.I64 c)
bool_keys (columns.U64 c) = no_keys (columns.U64 c)
bool_keys (columns.IpAddr c) = no_keys (columns.IpAddr c)
bool_keys (columns.DateTime c) = no_keys (columns.DateTime c)
bool_keys (columns.Bytes c) = no_keys (columns.Bytes c)
bool_keys (columns.Str c) = no_keys (columns.Str c)

-- its points in time
abbrev pub time_keys : DynamicColumn → List (Option ℤ)
time_keys (columns.DateTime c) = first_keys (λ t. t) (rows_of_values num_values_of c)
time_keys (columns.Bool c) = no_keys (columns.Bool c)
time_keys (columns.I64 c) = no_keys (columns.I64 c)
time_keys (columns.U64 c) = no_keys (columns.U64 c)
time_keys (columns.IpAddr c) = no_keys (columns.IpAddr c)
time_keys (columns.Bytes c) = no_keys (columns.Bytes c)
time_keys (columns.Str c) = no_keys (columns.Str c)

-- its addresses
abbrev pub address_keys : DynamicColumn → List (Option ℕ)
address_keys (columns.IpAddr c) = first_keys (λ n. n) (rows_of_values ip_values_of c)
address_keys (columns.Bool c) = no_keys (columns.Bool c)
address_keys (columns.I64 c) = no_keys (columns.I64 c)
address_keys (columns.U64 c) = no_keys (columns.U64 c)
address_keys (columns.DateTime c) = no_keys (columns.DateTime c)
address_keys (columns.Bytes c) = no_keys (columns.Bytes c)
address_keys (columns.Str c) = no_keys (columns.Str c)

-- the keys of a segment of so many rows: those of its column, where it has one
abbrev pub segment_keys : {K : Type 0} → (DynamicColumn → List (Option K)) → Option DynamicColumn
    → ℕ → List (Option K)
segment_keys keys (Some c) n = keys c
segment_keys keys None n = replicate n None

-- the keys of segments
unfoldable pub all_keys : {K : Type 0} → (DynamicColumn → List (Option K))
    → List (Option DynamicColumn) → List ℕ → List (List (Option K))
all_keys keys [] ns = []
all_keys keys (o ∷ os) [] = []
all_keys keys (o ∷ os) (n ∷ ns) = segment_keys keys o n ∷ all_keys keys os ns

-- each column is of a type
abbrev pub AreOfType : ColumnType → List (Option DynamicColumn) → Type 0
AreOfType t os = AllByRecursion (λ o. IfSome o (λ c. type_of c ≡ t)) os

-- each column is of a category
abbrev pub AreOf : Category → List (Option DynamicColumn) → Type 0
AreOf category os = AllByRecursion (λ o. IfSome o (IsOfCategory category)) os

-- all rows by the cells that they begin with, or by falling ones; equal ones stay as they stand
unfoldable pub rows_by_cells : Bool → List (Option DynamicColumn) → List ℕ → List (ℕ × ℕ)
rows_by_cells reversed os counts = sorted_items
    (λ a b. are_keys_in_order reversed (first_in os a) (first_in os b)) (all_rows counts)

-- Rows are all rows of segments with these row counts, in the order of their columns' cells where
-- the columns are of one category.
pub record SortsColumns (category : Category) (counts : List ℕ) (os : List (Option DynamicColumn))
    (reversed : Bool) (rows : List (ℕ × ℕ)) : Type 0 where
  pub moved : IsPermutation (all_rows counts) rows
  pub sorted : AreOf category os → rows ≡ rows_by_cells reversed os counts
