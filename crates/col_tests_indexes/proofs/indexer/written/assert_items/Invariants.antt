use Rattle.col_tests_indexes.proofs.indexer.written.assert_items.Given as goal

-- the walk is one of the list
abbrev pub invariant-loop-item : goal.invariant-loop-item
invariant-loop-item g l = g.I.Iterable.stands l.list l.at
