use Rattle.std.proofs.Common.{◌+◌, ◌%◌, ◌^◌, slice_index, ap}
use Rattle.col_codecs.specs.Line.{raised}
use Rattle.col_codecs.proofs.TurningLemmas.{replaced-more}
use Rattle.col_codecs.proofs.line.Line.add_to.Goals as goal

pub loop-at-preserved : goal.loop-at-preserved
loop-at-preserved c =
    let l = c.args.self.now in
    let y = slice_index c.loop-at.offsets c.loop-at.at in
    replaced-more (raised l.slope l.intercept) c.args.start c.loop-at.at _ c.args.offsets.now c.loop-at.offsets
    c.loop-at-test.true c.loop-at.invariant (ap (λ x. (x + y) % 2 ^ 64) c.eval.ensures)
