use Rattle.std.proofs.Common.{◌∙◌}
use Rattle.std.proofs.lemmas.Result.{err_from_is_err_and}
use Rattle.col_compact.proofs.SpellingLemmas.{spelling-none, spelling-ordered, spelling-more, spelling-stopped, spelling-all}
use Rattle.col_compact.proofs.footer.serialize_ranges.Goals as goal

pub loop-range-init : goal.loop-range-init
loop-range-init g c = spelling-none c.args.ranges.now _ c.requires

pub overflow_sub-range : goal.overflow_sub-range
overflow_sub-range g c =
    rw (c.get-range.ensures ∙ c.range-item.is)
    ((spelling-ordered _ _ c.range-item.result _ _ _ _ c.loop-range-test.true c.loop-range.invariant).0)

pub overflow_sub-range-in-loop-range : goal.overflow_sub-range-in-loop-range
overflow_sub-range-in-loop-range g c =
    rw (c.get-range.ensures ∙ c.range-item.is)
    ((spelling-ordered _ _ c.range-item.result _ _ _ _ c.loop-range-test.true c.loop-range.invariant).1)

pub returns-in_err-serialize_pair : goal.returns-in_err-serialize_pair
returns-in_err-serialize_pair g c =
    let p = err_from_is_err_and c.from_residual.result c.from_residual.ensures.1 in
    rw (p.1, p.2) (spelling-stopped _ _ _ _ _ _ _ _ c.loop-range.invariant c.in_err-serialize_pair.ensures)

pub loop-range-preserved : goal.loop-range-preserved
loop-range-preserved g c =
    let found = c.get-range.ensures ∙ c.range-item.is in
    rw found (spelling-more _ _ c.range-item.result _ _ _ _ c.loop-range-test.true c.loop-range.invariant _ _
    (rw found at c.in_ok-serialize_pair.ensures))

pub returns : goal.returns
returns g c = spelling-all _ _ _ _ _ _ c.loop-range-test.false c.loop-range.invariant
