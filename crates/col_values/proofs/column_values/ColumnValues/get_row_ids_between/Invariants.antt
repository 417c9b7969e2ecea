use Rattle.std.proofs.Common.{◌≡◌, ◌≤◌, ◌+◌, ◌-◌, length, take, max}
use Rattle.col_values.specs.Values.{is_between, hits}
use Rattle.col_values.proofs.column_values.ColumnValues.get_row_ids_between.Given as goal

-- what is found are the hits so far; with reversed ends nothing moves
abbrev pub invariant-loop-start : goal.invariant-loop-start
invariant-loop-start g l =
    let from = l.fn.rows.start in
    record {
      found : l.hits.items ≡ hits (is_between g.T.PartialOrd.partial_cmp l.low l.high)
          (g.Self.ColumnValues.values l.self) from (l.start - from);
      after : from ≤ l.start;
      within : l.start ≤ max from l.end;
      room : length l.block ≡ 1024;
    }

abbrev pub decreases-loop-start : goal.decreases-loop-start
decreases-loop-start g l = l.end - l.start

-- the front of the block are the hits since its start
abbrev pub invariant-loop-row : goal.invariant-loop-row
invariant-loop-row g l =
    record {
      found : take l.found l.block
          ≡ hits (is_between g.T.PartialOrd.partial_cmp l.low l.high) (g.Self.ColumnValues.values l.self) l.start
          (l.row - l.start);
      below : l.found + l.start ≤ l.row;
      room : length l.block ≡ 1024;
    }
