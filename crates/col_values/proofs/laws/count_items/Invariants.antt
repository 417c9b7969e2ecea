use Rattle.std.proofs.Common.{◌≡◌, ◌+◌, ◌≤◌, length, drop}
use Rattle.col_values.proofs.laws.count_items.Given as goal

-- what was counted and what is left are the list
abbrev pub invariant-loop-item : goal.invariant-loop-item
invariant-loop-item g l =
    let list = g.V.ColumnValues.values l.values in
    record {
      stands : l.at.place ≤ length list;
      counted : l.count + length (drop l.at.place list) ≡ length list;
    }

abbrev pub decreases-loop-item : goal.decreases-loop-item
decreases-loop-item g l = length (drop l.at.place (g.V.ColumnValues.values l.values))
