use Rattle.std.proofs.Common.{arith}
use Rattle.col_query.proofs.WordLemmas.{flags_turned}
use Rattle.col_query.proofs.words.turn_words.Goals as goal

pub returns : goal.returns
returns c = flags_turned c.args.words.now c.loop-word.words (λ i h. c.loop-word.invariant.before i (omega arith))
