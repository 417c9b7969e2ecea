use Rattle.std.proofs.Common.{◌≡◌, ◌&&◌, length}
use Rattle.col_common.specs.Ascending.{is_rising, are_below}
use Rattle.col_indexer.proofs.CheckLemmas.{rise_from}
use Rattle.col_indexer.proofs.checks.rises_below.Given as goal

-- the test of what is left is that of the list
abbrev pub invariant-loop-next : goal.invariant-loop-next
invariant-loop-next g l = record {
  stands : g.I.Iterable.stands l.list l.at;
  test : (is_rising (g.I.Iterable.items l.list) && are_below l.bound (g.I.Iterable.items l.list))
      ≡ rise_from l.next l.bound (g.I.Iterable.left l.list l.at);
}

abbrev pub decreases-loop-next : goal.decreases-loop-next
decreases-loop-next g l = length (g.I.Iterable.left l.list l.at)
