use Rattle.std.proofs.Common.{arith, ◌-◌, ◌+◌}
use Rattle.col_program.specs.GenScript.{docs_lines}
use Rattle.col_gen.proofs.AddedLemmas.{segment-added, segments-start, segments-more, segments-none}
use Rattle.col_gen.proofs.documents.push_segments.Goals as goal

pub loop-segment-init : goal.loop-segment-init
loop-segment-init c = segments-start _ (c.args.segments - 0) c.args.segments c.args.documents c.args.draws.now (omega arith)

pub loop-segment-preserved : goal.loop-segment-preserved
loop-segment-preserved c =
    let docs = docs_lines c.args.documents 0 c.loop-segment.draws in
    segments-more _ _ _ _ (c.args.segments - c.loop-segment._segment)
    (c.args.segments - (c.loop-segment._segment + 1)) c.args.documents c.loop-segment.draws _ (omega arith)
    c.loop-segment.invariant
    (segment-added _ _ _ _ c.args.documents docs c.in_ok-push_segment_line.ensures c.in_ok-push_documents.ensures)

pub returns : goal.returns
returns c = segments-none _ _ _ (c.args.segments - c.loop-segment._segment) c.args.documents _ (omega arith) c.loop-segment.invariant
