use Rattle.std.proofs.Common.{arith}
use Rattle.std.proofs.lemmas.Option.{get_or_from_slice_get}
use Rattle.col_index.proofs.RunHeldLemmas.{summed_long, summed_next}
use Rattle.col_index.proofs.selected_runs.run_at.Goals as goal

pub bounds-before-number : goal.bounds-before-number
bounds-before-number c = omega (arith, summed_long c.args.starts.now c.args.before.now c.requires.summed)

pub bounds-before-number-2 : goal.bounds-before-number-2
bounds-before-number-2 c = omega (arith, summed_long c.args.starts.now c.args.before.now c.requires.summed)

pub overflow_sub-result : goal.overflow_sub-result
overflow_sub-result c = omega (arith, summed_next c.args.starts.now c.args.before.now c.requires.summed c.args.number c.requires.number)

pub returns-clause-start : goal.returns-clause-start
returns-clause-start c = get_or_from_slice_get c.args.starts.now.rows c.args.number c.select.result 0 c.select.ensures

pub returns-clause-end : goal.returns-clause-end
returns-clause-end c = omega (arith, summed_next c.args.starts.now c.args.before.now c.requires.summed c.args.number c.requires.number)
