use Rattle.std.proofs.Common.{◌-◌, sym, ◌∙◌, arith}
use Rattle.std.proofs.lemmas.Option.{get_or_from_slice_get}
use Rattle.col_index.proofs.RunEndLemmas.{last_within, last_apart}
use Rattle.col_index.proofs.RunHeldLemmas.{summed_long, summed_rise, part_none, part_last}
use Rattle.col_index.proofs.row_runs.last_run.Goals as goal

pub returns-then-count-eq0-clause-run : goal.returns-then-count-eq0-clause-run
returns-then-count-eq0-clause-run c = λ row h. record {
  start = omega arith;
  part = part_none c.args.starts.now c.args.before.now c.requires.summed row (sym c.if-count-eq0.true ∙ h);
}

pub bounds-before-count : goal.bounds-before-count
bounds-before-count c = omega (arith, summed_long c.args.starts.now c.args.before.now c.requires.summed)

pub bounds-before-count-2 : goal.bounds-before-count-2
bounds-before-count-2 c = omega (arith, summed_long c.args.starts.now c.args.before.now c.requires.summed)

pub overflow_sub-result : goal.overflow_sub-result
overflow_sub-result c = summed_rise c.args.starts.now c.args.before.now c.requires.summed c.args.count (omega arith) c.requires.count

pub returns-clause-end : goal.returns-clause-end
returns-clause-end c =
    let starts = c.args.starts.now in
    let read = get_or_from_slice_get starts.rows (c.args.count - 1) c.select.result 0 c.select.ensures in
    let within = last_within starts c.args.before.now c.requires.summed c.args.count (omega arith) c.requires.count in
    omega (arith, within, read, c.num_docs-count.ensures, c.num_docs-count.type_inv)

pub returns-clause-apart : goal.returns-clause-apart
returns-clause-apart c = λ more.
    let starts = c.args.starts.now in
    let read = get_or_from_slice_get starts.rows (c.args.count - 1) c.select.result 0 c.select.ensures in
    let apart = last_apart starts c.args.before.now c.requires.summed c.args.count (omega arith) c.requires.count more in
    omega (arith, apart, read)

pub returns-clause-start : goal.returns-clause-start
returns-clause-start c =
    λ some. get_or_from_slice_get c.args.starts.now.rows (c.args.count - 1) c.select.result 0 c.select.ensures

pub returns-clause-run : goal.returns-clause-run
returns-clause-run c = λ row h.
    let read = get_or_from_slice_get c.args.starts.now.rows (c.args.count - 1) c.select.result 0 c.select.ensures in
    let part = part_last c.args.starts.now c.args.before.now c.requires.summed row c.args.count c.select.result (omega arith) h
    c.requires.count (sym read) in
    record { start = part.0; part = part.1 }
