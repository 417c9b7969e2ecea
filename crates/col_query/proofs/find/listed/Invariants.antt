use Rattle.std.proofs.Common.{◌≡◌, ◌++◌, length}
use Rattle.col_query.proofs.find.listed.Given as goal

-- what was listed and what is left are the documents
abbrev pub invariant-loop-doc : goal.invariant-loop-doc
invariant-loop-doc g l = record {
  stands : g.I.Iterable.stands l.rows l.at;
  whole : l.docs.items ++ g.I.Iterable.left l.rows l.at ≡ g.I.Iterable.items l.rows;
}

abbrev pub decreases-loop-doc : goal.decreases-loop-doc
decreases-loop-doc g l = length (g.I.Iterable.left l.rows l.at)
