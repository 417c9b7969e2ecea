use Rattle.std.proofs.Common.{◌-◌, ◌≤◌, length}
use Rattle.col_numbers.specs.Readers.{list_of}
use Rattle.col_index.specs.Search.{IsNarrowed}
use Rattle.col_index.proofs.search.gallop.Given as goal

abbrev pub invariant-loop-low : goal.invariant-loop-low
invariant-loop-low l =
    let numbers = list_of l.values in
    record {
      narrowed : IsNarrowed numbers l.target l.low (length numbers);
      some_step : 1 ≤ l.step;
    }

abbrev pub decreases-loop-low : goal.decreases-loop-low
decreases-loop-low l = l.count - l.low
