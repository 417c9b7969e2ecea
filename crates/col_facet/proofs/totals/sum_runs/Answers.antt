use Rattle.std.proofs.Common.{◌+◌, sym, ◌∙◌, ap, arith}
use Rattle.col_facet.specs.Listed.{listed_counts, begins_apart}
use Rattle.col_facet.proofs.MergeLemmas.{rest-is}
use Rattle.col_facet.proofs.RunSumLemmas.{all-summed, more-summed, cell-summed, too-great}
use Rattle.col_facet.proofs.totals.sum_runs.Goals as goal

pub returns-clause-ok : goal.returns-clause-ok
returns-clause-ok c =
    all-summed c.args.listed.now c.loop-i.sums.items c.loop-i.so_far c.loop-i.i c.loop-i.invariant
    (omega (arith, c.loop-i-test.false))

pub returns-in_default-clause-err : goal.returns-in_default-clause-err
returns-in_default-clause-err c =
    too-great c.args.listed.now c.loop-i.invariant c.index-listed-i.result c.loop-i-test.true c.index-listed-i.is
    (omega (arith, c.in_default.ensures))

pub loop-i-preserved : goal.loop-i-preserved
loop-i-preserved c =
    let left = ap listed_counts (rest-is c.args.listed.now (c.loop-i.i + 1)) in
    more-summed c.args.listed.now c.loop-i.invariant c.index-listed-i.result c.loop-i-test.true c.index-listed-i.is
    c.in-Some.sum c.in-Some.ensures.1 (sym (ap (begins_apart _) left) ∙ sym c.if-is_last.ensures)

pub loop-i-preserved-then-is_last : goal.loop-i-preserved-then-is_last
loop-i-preserved-then-is_last c =
    let left = ap listed_counts (rest-is c.args.listed.now (c.loop-i.i + 1)) in
    cell-summed c.args.listed.now c.loop-i.invariant c.index-listed-i.result c.loop-i-test.true c.index-listed-i.is
    c.requires c.in-Some.sum c.in-Some.ensures.1 (sym (ap (begins_apart _) left) ∙ sym c.if-is_last.ensures)
    c.push_count.new.facets.items c.in_ok-push_count.ensures.ok
