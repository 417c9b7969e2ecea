-- Bars: how many values lie in ranges of one width. States docs/RULES.md, Bars.
use Rattle.std.specs.Prelude.{ℕ, zero, suc, ℤ, pos, ◌+◌, ◌-◌, ◌*◌, ◌/◌, ◌+ℤ◌, ◌-ℤ◌, nat_abs, min, Bool, true, false, List, [], map, count_by, Option, Some, None, if◌then◌else◌}
use Rattle.std.specs.List.{range_with_len, sum_by}
use Rattle.col_model.specs.ColumnType.{ColumnType}
use Rattle.col_model.specs.ColumnType as types
use Rattle.col_model.specs.Lookup.{is_between}
use Rattle.col_model.specs.Table.{Cell, number, text}
use Rattle.col_look.specs.Ends.{least_cell, greatest_cell}
use Rattle.col_look.specs.declared.bar.Bar.{Bar}

-- columns of these types have bars
abbrev pub has_bars : ColumnType → Bool
has_bars types.i64 = true
has_bars types.u64 = true
has_bars types.bytes = false
has_bars types.str = false
has_bars types.bool = true
has_bars types.ip = false
has_bars types.datetime = true

-- how many whole numbers a bar has: the fewest with which so many bars reach over a distance
abbrev pub bar_width : ℕ → ℕ → ℕ
bar_width count distance = suc (distance / count)

-- how far above the least number the bar at a place begins, and how far above it ends
abbrev pub bar_start : ℕ → ℕ → ℕ
bar_start width place = place * width

abbrev pub bar_end : ℕ → ℕ → ℕ → ℕ
bar_end distance width place = min (bar_start width place + (width - 1)) distance

-- the first and the last number of the bar at a place
abbrev pub bar_range : ℤ → ℕ → ℕ → ℕ → ℤ × ℤ
bar_range least distance width place =
    (least +ℤ pos (bar_start width place), least +ℤ pos (bar_end distance width place))

-- The numbers from the least to the greatest, cut into at most so many ranges of one width, of
-- which the last may be shorter.
unfoldable pub bar_ranges : ℤ → ℤ → ℕ → List (ℤ × ℤ)
bar_ranges least greatest zero = []
bar_ranges least greatest (suc n) =
    let distance = nat_abs (greatest -ℤ least) in
    let width = bar_width (suc n) distance in
    map (bar_range least distance width) (range_with_len 0 (suc (distance / width)))

-- the bar of a range has as many of the cells as are between its ends
abbrev pub bar_over : List Cell → ℤ × ℤ → Bar
bar_over cells range = record {
  first = range.0;
  last = range.1;
  count = count_by (is_between (number range.0) (number range.1)) cells;
}

-- the bars of cells between two numbers
abbrev pub bars_between : Option Cell → Option Cell → ℕ → List Cell → List Bar
bars_between (Some (number a)) (Some (number b)) count cells =
    map (bar_over cells) (bar_ranges a b count)
bars_between (Some (number a)) (Some (text t)) count cells = []
bars_between (Some (number a)) None count cells = []
bars_between (Some (text t)) greatest count cells = []
bars_between None greatest count cells = []

-- at most so many bars, from the least to the greatest of the cells; none of other types
abbrev pub bars_of : ColumnType → ℕ → List Cell → List Bar
bars_of t count cells =
    if has_bars t then bars_between (least_cell cells) (greatest_cell cells) count cells else []

-- how many values bars have together
abbrev pub bar_total : List Bar → ℕ
bar_total bars = sum_by (λ b. b.count) bars

-- of so many, what the count is of the greatest, rounded down; 0 where the greatest is 0, and never
-- more than all
abbrev pub bar_length : ℕ → ℕ → ℕ → ℕ
bar_length count zero width = 0
bar_length count (suc m) width = min (count * width / suc m) width
