use Rattle.std.proofs.Common.{arith}
use Rattle.col_bits.proofs.WordLemmas.{word_is, word_past}
use Rattle.col_bits.proofs.words.last_word.Goals as goal

pub returns-then-bytes-at : goal.returns-then-bytes-at
returns-then-bytes-at c = word_past c.args.bytes.now c.args.at (λ k. (c.type_inv.bytes k).fits) c.if-bytes-at.true

pub returns : goal.returns
returns c = omega (arith, word_is c.args.bytes.now c.args.at (λ k. (c.type_inv.bytes k).fits))
