use Rattle.std.proofs.Common.{arith}
use Rattle.col_numbers.specs.Readers.{list_of}
use Rattle.col_merge_column.proofs.SingleLemmas.{one-step, no-steps}
use Rattle.col_merge_column.proofs.cell_counts.greatest_step.Goals as goal

pub loop-at-preserved : goal.loop-at-preserved
loop-at-preserved c =
    one-step (list_of c.args.starts.now) c.loop-at.at c.get_val-start.result c.loop-at.before c.loop-at.greatest
    c.max-greatest.result (omega (arith, c.loop-at-test.true, c.num_vals-at-end.ensures))
    c.get_val-start.ensures (omega (arith, c.saturating_sub.ensures, c.max-greatest.ensures))
    c.loop-at.invariant

pub returns : goal.returns
returns c =
    no-steps (list_of c.args.starts.now) c.loop-at.at c.loop-at.before c.loop-at.greatest
    (omega (arith, c.loop-at-test.false, c.num_vals-at-end.ensures)) c.loop-at.invariant
