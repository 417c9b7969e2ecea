use Rattle.std.proofs.Common.{sym, arith}
use Rattle.col_facet.proofs.merge.push_next.Goals as goal
use Rattle.col_facet.proofs.MergeLemmas.{fronts_of, moved-on, next-less, next-greater, next-sum, next-large}

pub returns-in_default-clause-err : goal.returns-in_default-clause-err
returns-in_default-clause-err c =
    let fronts = fronts_of c.requires.left c.requires.right c.requires.some_left c.requires.some_right
    c.index-left-0.is c.index-right-0.is in
    next-large fronts (sym c.in-Equal.ensures) (omega (arith, c.in_default.ensures))

pub returns-in_ok-push_count-in-Less-clause-next : goal.returns-in_ok-push_count-in-Less-clause-next
returns-in_ok-push_count-in-Less-clause-next c =
    let fronts = fronts_of c.requires.left c.requires.right c.requires.some_left c.requires.some_right
    c.index-left-0.is c.index-right-0.is in
    moved-on _ _ _ _ c.index-left-0.result c.in_ok-push_count-in-Less.ensures.ok (next-less fronts (sym c.in-Less.ensures))

pub returns-in_ok-push_count-in-Greater-clause-next : goal.returns-in_ok-push_count-in-Greater-clause-next
returns-in_ok-push_count-in-Greater-clause-next c =
    let fronts = fronts_of c.requires.left c.requires.right c.requires.some_left c.requires.some_right
    c.index-left-0.is c.index-right-0.is in
    moved-on _ _ _ _ c.index-right-0.result c.in_ok-push_count-in-Greater.ensures.ok (next-greater fronts (sym c.in-Greater.ensures))

pub returns-in_ok-push_count-in-Equal-clause-next : goal.returns-in_ok-push_count-in-Equal-clause-next
returns-in_ok-push_count-in-Equal-clause-next c =
    let fronts = fronts_of c.requires.left c.requires.right c.requires.some_left c.requires.some_right
    c.index-left-0.is c.index-right-0.is in
    moved-on _ _ _ _ (record { cell = c.index-left-0.result.cell; count = c.in-Some.count }) c.in_ok-push_count-in-Equal.ensures.ok
    (next-sum fronts (sym c.in-Equal.ensures) c.in-Some.count c.in-Some.ensures.1)
