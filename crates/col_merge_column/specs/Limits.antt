-- How many values the rows may have that an order picks. States docs/RULES.md, Limits of columns.
use Rattle.std.specs.Prelude.{◌≡◌, ℕ, ◌<◌, ◌≤◌, ◌^◌, ◌+◌, ◌-◌, ◌==◌, ◌&&◌, ◌||◌, not, nat_le, Bool, false, List, [], ◌∷◌, sum, count_by}
use Rattle.std.specs.List.{AllByRecursion}
use Rattle.col_model.specs.ColumnType.{ColumnType}
use Rattle.col_model.specs.Index.{Shape}
use Rattle.col_model.specs.Limits.{is_multivalued, has_many_codes}
use Rattle.col_model.specs.Order.{Order}
use Rattle.col_model.specs.Positions.{count_in, picked_counts}
use Rattle.col_model.specs.Table.{Cell}
use Rattle.col_order.specs.Orders.{picks_of}
use Rattle.col_index.specs.declared.column_index.ColumnIndex.{ColumnIndex}
use Rattle.col_index.specs.Indexes.{shape_of}
use Rattle.col_indexer.specs.Merged.{merged_cardinality, IsMerged}
use Rattle.col_indexer.specs.Spelling.{Index, IsIndex, is_past_limit}

-- how many values each of the rows has that an order picks
abbrev pub counts_picked : Order → List Shape → List ℕ
counts_picked order shapes = picked_counts shapes (picks_of order)

-- More values than 32 bits count; or Multivalued with more rows that aren't empty than one below
-- that.
abbrev pub is_past_limits : Order → List Shape → Bool
is_past_limits order shapes =
    nat_le (2 ^ 32) (sum (counts_picked order shapes))
    || (is_multivalued (merged_cardinality order shapes)
    && nat_le (2 ^ 32 - 1) (count_by (λ c. not (c == 0)) (counts_picked order shapes)))

-- no row of an index has more values
abbrev pub HasAtMost : ℕ → ColumnIndex → Type 0
HasAtMost most index = (row : ℕ) → count_in (shape_of index) row ≤ most

-- the same of indexes
abbrev pub HaveAtMost : ℕ → List ColumnIndex → Type 0
HaveAtMost most indexes = AllByRecursion (HasAtMost most) indexes

-- no number is further above the one before it, the first above another one
unfoldable pub StepsAtMost : ℕ → ℕ → List ℕ → Type 0
StepsAtMost most before [] = Unit {0}
StepsAtMost most before (x ∷ xs) = (x ≤ before + most) × StepsAtMost most x xs

-- an index counts the picked rows, and can be written; 32 bits count their values
pub record IsMergedWithin (order : Order) (shapes : List Shape) (i : Index) : Type 0 where
  pub merged : IsMerged order shapes i
  pub index : IsIndex i
  pub limit : is_past_limit i ≡ false
  pub few : sum (counts_picked order shapes) < 2 ^ 32

-- a column of this type has no codes that 32 bits have to count
abbrev pub HasNoCodes : ColumnType → Type 0
HasNoCodes t = (rows : List (List Cell)) → has_many_codes t rows ≡ false
