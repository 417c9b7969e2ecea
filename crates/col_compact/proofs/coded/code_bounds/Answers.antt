use Rattle.std.proofs.Common.{arith}
use Rattle.col_compact.proofs.CodedLemmas.{bounds_more, bounds_block}
use Rattle.col_compact.proofs.coded.code_bounds.Goals as goal

pub loop-at-preserved : goal.loop-at-preserved
loop-at-preserved c =
    let l = c.loop-at in
    let long = c.get_range.auto.output in
    let below = c.loop-at-test.true in
    bounds_block c.args.codes.now c.get_range.new.output c.args.unpacker c.loop-start.start _ l.at l.least
    l.greatest c.min-least.result c.max-greatest.result l.invariant c.get_range.ensures
    (omega (arith, long, below)) c.min-least.ensures c.max-greatest.ensures

pub loop-idx-preserved : goal.loop-idx-preserved
loop-idx-preserved c =
    let l = c.loop-idx in
    bounds_more c.args.codes.now c.args.unpacker l.idx l.least l.greatest c.get-code.result
    c.min-least-in-loop-idx.result c.max-greatest-in-loop-idx.result l.invariant c.get-code.ensures.value
    c.min-least-in-loop-idx.ensures c.max-greatest-in-loop-idx.ensures
