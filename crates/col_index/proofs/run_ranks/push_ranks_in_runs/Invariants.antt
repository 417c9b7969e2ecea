use Rattle.std.proofs.Common.{◌≡◌, ◌≤◌, ◌<◌, ◌++◌, ℕ, take, get_or}
use Rattle.col_index.specs.Sets.{held, held_ranks}
use Rattle.col_index.specs.RunPlaces.{IsRunPlace, IsRowOf}
use Rattle.col_index.proofs.run_ranks.push_ranks_in_runs.Given as goal

-- those before a place are pushed, and those behind it stand in the run
abbrev pub invariant-loop-at : goal.invariant-loop-at
invariant-loop-at l =
    let rows = l.runs.rows in
    let front = take l.from l.docs in
    record {
      place : IsRunPlace rows l.place;
      order : l.from ≤ l.at;
      some : (k : ℕ) → l.from ≤ k → k < l.at → IsRowOf (get_or l.docs k 0) l.place.run;
      docs : l.docs_out.items ≡ l.fn.docs_out.items ++ held rows front;
      rows : l.rows_out.items ≡ l.fn.rows_out.items ++ held_ranks rows front;
    }
