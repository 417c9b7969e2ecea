use Rattle.std.proofs.Common.{arith}
use Rattle.col_common.proofs.FlagLemmas.{length-flags}
use Rattle.col_query.proofs.words.docs_of_words.Goals as goal

pub loop-doc-smaller : goal.loop-doc-smaller
loop-doc-smaller c =
    omega (
      arith,
      c.in-Some.ensures.first.0,
      c.in-Some.ensures.later,
      length-flags c.args.words.now c.from-num_docs.result,
      c.from-at.ensures,
      c.from-num_docs.ensures,
    )
