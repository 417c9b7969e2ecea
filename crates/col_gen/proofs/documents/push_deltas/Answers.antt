use Rattle.std.proofs.Common.{arith, ◌-◌, ◌+◌}
use Rattle.col_gen.proofs.AddedLemmas.{deltas-start, deltas-more, deltas-none}
use Rattle.col_gen.proofs.documents.push_deltas.Goals as goal

pub loop-delta-init : goal.loop-delta-init
loop-delta-init c = deltas-start _ c.args.document (c.args.deltas - 0) c.args.deltas c.args.draws.now (omega arith)

pub loop-delta-preserved : goal.loop-delta-preserved
loop-delta-preserved c =
    deltas-more _ _ _ _ c.args.document (c.args.deltas - c.loop-delta._delta)
    (c.args.deltas - (c.loop-delta._delta + 1)) c.loop-delta.draws _ _ (omega arith) c.draw.ensures.state
    c.draw.ensures.value c.loop-delta.invariant c.in_ok-push_delta.ensures

pub returns : goal.returns
returns c = deltas-none _ _ _ c.args.document (c.args.deltas - c.loop-delta._delta) _ (omega arith) c.loop-delta.invariant
