use Rattle.std.proofs.Common.{◌≡◌, ◌++◌, length}
use Rattle.col_indexer.proofs.serialize.collected_with_capacity.Given as goal

-- what was collected and what is left are the list
abbrev pub invariant-loop-item : goal.invariant-loop-item
invariant-loop-item g l = record {
  stands : g.I.Iterable.stands l.list l.at;
  whole : l.items.items ++ g.I.Iterable.left l.list l.at ≡ g.I.Iterable.items l.list;
}

abbrev pub decreases-loop-item : goal.decreases-loop-item
decreases-loop-item g l = length (g.I.Iterable.left l.list l.at)
