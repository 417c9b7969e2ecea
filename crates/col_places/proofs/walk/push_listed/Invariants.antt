use Rattle.std.proofs.Common.{◌≡◌, ◌≤◌, ◌<◌, ◌*◌, ◌++◌, length, get_or, take}
use Rattle.col_places.specs.Bits.{clear_places, set_below}
use Rattle.col_places.proofs.walk.push_listed.Given as goal

abbrev pub invariant-loop-row : goal.invariant-loop-row
invariant-loop-row l = record {
  counted : l.before ≡ set_below l.dropped (64 * l.word);
  behind : l.row-index < length l.rows → 64 * l.word ≤ get_or l.rows l.row-index 0;
  found : l.places.items ≡ l.fn.places.items ++ clear_places l.first l.dropped (take l.row-index l.rows);
}
