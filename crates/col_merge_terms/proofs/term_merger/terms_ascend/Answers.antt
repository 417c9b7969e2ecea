use Rattle.std.proofs.Common.{subst, arith}
use Rattle.std.specs.List.{AllByRecursion}
use Rattle.std.proofs.lemmas.List.{take_all}
use Rattle.col_merge_terms.specs.Merging.{LeftAscends}
use Rattle.col_merge_terms.proofs.StreamLemmas.{ascend-more}
use Rattle.col_merge_terms.proofs.term_merger.terms_ascend.Goals as goal

pub loop-stream-preserved : goal.loop-stream-preserved
loop-stream-preserved c =
    ascend-more c.args.streams.now c.loop-stream.stream-index c.stream-item.result c.loop-stream-test.true
    c.stream-item.is c.loop-stream.invariant c.terms_ascend.ensures

pub returns : goal.returns
returns c =
    subst (AllByRecursion LeftAscends) (take_all c.loop-stream.stream-index c.args.streams.now (omega arith)) c.loop-stream.invariant
