use Rattle.std.proofs.Common.{◌∙◌}
use Rattle.col_bits.proofs.WordLemmas.{word_is}
use Rattle.col_bits.proofs.words.word.Goals as goal

pub returns : goal.returns
returns c = c.from_le_bytes.ensures ∙ word_is c.args.bytes.now c.args.at (λ k. (c.type_inv.bytes k).fits)
