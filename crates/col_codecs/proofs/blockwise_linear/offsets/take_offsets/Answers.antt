use Rattle.std.proofs.Common.{◌+◌, ◌-◌, ◌%◌, ◌^◌, slice_index_or, ap, arith}
use Rattle.col_codecs.specs.LinearParams.{bare_params}
use Rattle.col_codecs.proofs.BlockOffsetLemmas.{AreOffsets-push}
use Rattle.col_codecs.proofs.blockwise_linear.offsets.take_offsets.Goals as goal

pub loop-at-preserved : goal.loop-at-preserved
loop-at-preserved c =
    let now = c.loop-at.vals in
    let at = c.loop-at.at in
    let offset = (slice_index_or now at 0 + (2 ^ 64 - c.eval.result)) % 2 ^ 64 in
    rw c.max-greatest.ensures
    (AreOffsets-push (bare_params c.args.line) c.args.vals.now now at c.loop-at.greatest offset c.loop-at.invariant
    (omega (arith, c.loop-at.invariant.long))
    (ap (λ y. (slice_index_or now at 0 + (2 ^ 64 - y)) % 2 ^ 64) c.eval.ensures))
