use Rattle.std.proofs.Common.{◌≡◌, ◌+◌, length}
use Rattle.col_indexer.proofs.serialize.has_so_many.Given as goal

-- what was found and what is left are the list
abbrev pub invariant-loop-found : goal.invariant-loop-found
invariant-loop-found g l = record {
  stands : g.I.Iterable.stands l.list l.at;
  counted : l._found + length (g.I.Iterable.left l.list l.at) ≡ length (g.I.Iterable.items l.list);
}
