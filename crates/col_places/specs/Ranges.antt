-- Rows with a value from one end to another, the ends of any kind.
use Rattle.std.specs.Prelude.{ℕ, ℤ, pos, negsuc, ◌-◌, ◌^◌, ◌&&◌, Bool, List}
use Rattle.std.specs.List.{list_all, list_any}
use Rattle.col_model.specs.ColumnType.{ColumnType}
use Rattle.col_model.specs.ColumnType as types
use Rattle.col_model.specs.Limits.{is_of_type}
use Rattle.col_model.specs.Lookup.{is_between, row_of}
use Rattle.col_model.specs.Table.{Cell, Content}
use Rattle.col_program.specs.Queries.{End, cell_of, is_kind}
use Rattle.col_query.specs.Sets.{docs_where}

-- some cell of a row is at least the one end and at most the other, which are of the type's kind
abbrev pub is_row_between : ColumnType → End → End → List Cell → Bool
is_row_between t lo hi cells =
    is_kind t lo && is_kind t hi && list_any (is_between (cell_of lo) (cell_of hi)) cells

-- the rows below n with such a cell, ascending
abbrev pub rows_between : ColumnType → End → End → Content → ℕ → List ℕ
rows_between t lo hi content n = docs_where (λ r. is_row_between t lo hi (row_of content r)) n

-- the cells of all rows are of the type
abbrev pub are_cells_of : ColumnType → Content → Bool
are_cells_of t content = list_all (list_all (is_of_type t)) content.rows

-- the least number of a type of numbers, and the greatest
abbrev pub least_of : ColumnType → ℤ
least_of types.i64 = negsuc (2 ^ 63 - 1)
least_of types.datetime = negsuc (2 ^ 63 - 1)
least_of t = pos 0

abbrev pub greatest_of : ColumnType → ℤ
greatest_of types.i64 = pos (2 ^ 63 - 1)
greatest_of types.datetime = pos (2 ^ 63 - 1)
greatest_of types.u64 = pos (2 ^ 64 - 1)
greatest_of t = pos 1
