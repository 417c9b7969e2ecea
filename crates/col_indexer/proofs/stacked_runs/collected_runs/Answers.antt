use Rattle.std.proofs.Common.{◌≡◌, true, refl, arith}
use Rattle.col_indexer.specs.Stacks.{index_segments}
use Rattle.col_indexer.proofs.RunStackLemmas.{become-front, become-more, become-end}
use Rattle.col_indexer.proofs.StackedWalkLemmas.{rows-fit}
use Rattle.col_indexer.proofs.stacked_runs.collected_runs.Goals as goal

pub loop-segment-init : goal.loop-segment-init
loop-segment-init c =
    let s = index_segments c.args.column_indexes.now c.args.order.now in
    record { before = refl; become = become-front s _ c.in_ok-runs.ensures }

pub push_runs-requires : goal.push_runs-requires
push_runs-requires c =
    rows-fit c.args.column_indexes.now c.args.order.now c.loop-segment.segment _ _ _ c.requires.segments
    (omega (arith, c.loop-segment-test.true, c.num_segments-segment-end.ensures)) c.segment_num_rows-num_rows.ensures
    c.index-column_indexes-segment.is c.loop-segment.invariant.before

pub loop-segment-preserved : goal.loop-segment-preserved
loop-segment-preserved c =
    let added : c.in_ok-push_runs.field-0 ≡ true = grind (arith, c.if-not-branch.false) in
    let more = become-more c.args.column_indexes.now c.args.order.now c.loop-segment.segment _ _ _ _ c.loop-segment.runs _
    c.requires.segments
    (omega (arith, c.loop-segment-test.true, c.num_segments-segment-end.ensures)) c.segment_num_rows-num_rows.ensures
    c.index-column_indexes-segment.is c.from.ensures c.loop-segment.invariant.before (c.in_ok-push_runs.ensures added)
    c.loop-segment.invariant.become in
    record { before = more.0; become = more.1 }

pub returns : goal.returns
returns c =
    let s = index_segments c.args.column_indexes.now c.args.order.now in
    become-end s c.loop-segment.segment c.loop-segment.before c.loop-segment.runs c.requires.segments
    (omega (arith, c.loop-segment-test.false, c.num_segments-segment-end.ensures)) c.loop-segment.invariant.become
