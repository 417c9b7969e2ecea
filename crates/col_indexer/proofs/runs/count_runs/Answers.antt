use Rattle.std.proofs.Common.{sym, arith}
use Rattle.std.proofs.lemmas.Bool.{eqb-true, eqb-false}
use Rattle.col_indexer.proofs.RunWalkLemmas.{count-none, count-more, count-next, count-most, count-all}
use Rattle.col_indexer.proofs.runs.count_runs.Goals as goal

pub returns-then-is_empty : goal.returns-then-is_empty
returns-then-is_empty c = count-none c.args.rows.now (eqb-true _ 0 (sym c.if-is_empty.ensures))

pub overflow_add-count-in-loop-at : goal.overflow_add-count-in-loop-at
overflow_add-count-in-loop-at c =
    let more = count-more c.args.rows.now c.loop-at.at c.loop-at.count c.loop-at.auto.at c.loop-at-test.true c.loop-at.invariant in
    let most = count-most c.args.rows.now c.loop-at.at _ c.loop-at-test.true more in
    omega arith

pub loop-at-preserved : goal.loop-at-preserved
loop-at-preserved c =
    count-next c.args.rows.now c.loop-at.at c.loop-at.count c.loop-at.auto.at c.loop-at-test.true c.loop-at.invariant

pub returns : goal.returns
returns c =
    let some = eqb-false _ 0 (sym c.if-is_empty.ensures) in
    let end = c.loop-at.auto.at-end in
    count-all c.args.rows.now c.loop-at.at c.loop-at.count c.loop-at.auto.at
    (omega (arith, some, end, c.loop-at-test.false)) c.loop-at.invariant
