use Rattle.std.proofs.Common.{◌≡◌, ◌++◌, length}
use Rattle.col_tests_common.proofs.walks.items_of.Given as goal

-- what is found and what is left are the list
abbrev pub invariant-loop-item : goal.invariant-loop-item
invariant-loop-item g l =
    let walked = g.I.Iterable in
    record {
      stands : walked.stands l.list l.at;
      all : l.found.items ++ walked.left l.list l.at ≡ walked.items l.list;
    }

abbrev pub decreases-loop-item : goal.decreases-loop-item
decreases-loop-item g l = length (g.I.Iterable.left l.list l.at)
