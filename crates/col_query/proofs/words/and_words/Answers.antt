use Rattle.std.proofs.Common.{arith}
use Rattle.col_query.proofs.WordLemmas.{flags_both}
use Rattle.col_query.proofs.words.and_words.Goals as goal

pub returns : goal.returns
returns c =
    λ alike. flags_both c.args.words.now c.args.others.now c.loop-at.words
    (λ i h. c.loop-at.invariant.before i (omega (arith, c.min-at-end.ensures)))
