use Rattle.std.proofs.Common.{◌≡◌, ◌-◌, ◌<◌, ◌≤◌, length, map, take, drop}
use Rattle.col_values.proofs.monotonic_column.map_range.Given as goal

-- the front of the output is what the values so far are mapped to
abbrev pub invariant-loop-done : goal.invariant-loop-done
invariant-loop-done g l =
    record {
      room : length l.output ≡ length l.fn.output;
      block : 0 < length l.block;
      within : l.done ≤ length l.output;
      mapped : take l.done l.output
          ≡ map (g.M.StrictlyMonotonicFn.there l.mapping)
          (take l.done (drop l.start (g.V.ColumnValues.values l.values)));
    }

abbrev pub decreases-loop-done : goal.decreases-loop-done
decreases-loop-done g l = length l.output - l.done
