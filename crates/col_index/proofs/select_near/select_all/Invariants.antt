use Rattle.std.proofs.Common.{◌≡◌, take, drop, map, length, slice_get, Some}
use Rattle.col_index.proofs.select_near.select_all.Given as goal

-- the front are rows, and the rest is still ranks
abbrev pub invariant-loop-at : goal.invariant-loop-at
invariant-loop-at g l =
    let rows = g.R.SelectNear.rows l.rows in
    record {
      near : g.R.SelectNear.IsNear l.rows l.near;
      long : length l.ranks ≡ length l.fn.ranks;
      front : map Some (take l.at l.ranks) ≡ map (slice_get rows) (take l.at l.fn.ranks);
      rest : drop l.at l.ranks ≡ drop l.at l.fn.ranks;
    }
