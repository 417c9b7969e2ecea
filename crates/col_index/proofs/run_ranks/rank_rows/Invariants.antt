use Rattle.std.proofs.Common.{◌≡◌, ◌≤◌, ◌-◌, ◌++◌, take, drop, map, length}
use Rattle.col_index.specs.RunPlaces.{rank_in}
use Rattle.col_index.proofs.run_ranks.rank_rows.Given as goal

-- the front are ranks, and the rest is still rows
abbrev pub invariant-loop-at : goal.invariant-loop-at
invariant-loop-at l = record {
  order : l.from ≤ l.at;
  long : length l.rows ≡ length l.fn.rows;
  front : take l.at l.rows ≡ take l.from l.fn.rows ++ map (rank_in l.run) (take (l.at - l.from) (drop l.from l.fn.rows));
  rest : drop l.at l.rows ≡ drop l.at l.fn.rows;
}
