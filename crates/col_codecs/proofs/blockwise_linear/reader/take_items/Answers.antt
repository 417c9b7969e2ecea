use Rattle.std.proofs.Common.{◌+◌, ◌*◌, ◌%◌, ◌^◌, slice_index, arith}
use Rattle.col_codecs.proofs.PackingLemmas.{replaced-push}
use Rattle.col_codecs.proofs.blockwise_linear.reader.take_items.Goals as goal

pub loop-at-preserved : goal.loop-at-preserved
loop-at-preserved c =
    let product = c.args.divisor * slice_index c.loop-at.steps c.loop-at.at in
    replaced-push (λ k. (c.args.least + c.args.divisor * k) % 2 ^ 64) c.args.steps.now c.loop-at.steps c.loop-at.at
    _ c.loop-at.invariant (omega arith) (omega arith)
