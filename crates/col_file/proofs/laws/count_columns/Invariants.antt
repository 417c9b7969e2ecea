use Rattle.std.proofs.Common.{◌≡◌, ◌+◌, length}
use Rattle.col_file.proofs.laws.count_columns.Given as goal

-- what was counted and what is left are the entries
abbrev pub invariant-loop-column : goal.invariant-loop-column
invariant-loop-column g l = (goal.iterator-loop-column g).can_next l._column-iterator
    × (goal.iterator-loop-column g).is_finite l._column-iterator
    × (l.count + length l._column-iterator ≡ length l.columnar_reader.keys.entries)
