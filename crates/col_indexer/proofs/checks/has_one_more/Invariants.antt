use Rattle.std.proofs.Common.{◌≡◌, ◌+◌, length}
use Rattle.col_indexer.proofs.checks.has_one_more.Given as goal

-- as many items of both were found
abbrev pub invariant-loop-other : goal.invariant-loop-other
invariant-loop-other g l = record {
  stands : g.I.Iterable.stands l.list l.at;
  other : g.J.Iterable.stands l.other l.other_at;
  found : length (g.I.Iterable.left l.list l.at) + length (g.J.Iterable.items l.other)
      ≡ length (g.I.Iterable.items l.list) + length (g.J.Iterable.left l.other l.other_at);
}

abbrev pub decreases-loop-other : goal.decreases-loop-other
decreases-loop-other g l = length (g.J.Iterable.left l.other l.other_at)
