use Rattle.std.proofs.Common.{arith, refl, get_or}
use Rattle.col_writer_rows.proofs.StepLemmas.{step-next, steps-all}
use Rattle.col_writer_rows.proofs.doc_rows.steps.Goals as goal

pub loop-start-preserved : goal.loop-start-preserved
loop-start-preserved c =
    step-next c.loop-start.steps.items c.push.new.self.items c.args.starts.now c.loop-start.last
    c.loop-start.start-index (get_or c.args.starts.now c.loop-start.start-index 0) _ _ c.loop-start.invariant
    c.loop-start-test.true refl c.saturating_sub.ensures c.in_ok-push.ensures.items

pub returns : goal.returns
returns c =
    steps-all c.loop-start.steps.items c.args.starts.now c.loop-start.last c.loop-start.start-index _
    c.loop-start.invariant (omega arith)
