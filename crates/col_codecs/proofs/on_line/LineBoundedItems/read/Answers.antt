use Rattle.std.proofs.Common.{arith}
use Rattle.col_codecs.specs.OnLine.{on_line}
use Rattle.col_codecs.proofs.OnLineLemmas.{read-more}
use Rattle.col_codecs.proofs.on_line.LineBoundedItems.read.Goals as goal

pub loop-at-preserved : goal.loop-at-preserved
loop-at-preserved c =
    read-more (on_line c.args.self.now) c.loop-at.output c.args.start c.loop-at.at _ (omega arith) c.eval.ensures
    c.loop-at.invariant
