use Rattle.col_sort.proofs.BlockLemmas.{numbered-more}
use Rattle.std.proofs.Common.{◌<◌, length, arith}
use Rattle.col_sort.proofs.firsts.number_docs.Goals as goal

pub loop-at-preserved : goal.loop-at-preserved
loop-at-preserved c =
    let within : c.loop-at.at < length c.loop-at.docs = omega (arith, c.loop-at-test.true, c.loop-at.auto.docs) in
    numbered-more c.loop-at.docs c.args.start c.loop-at.at within c.loop-at.invariant
