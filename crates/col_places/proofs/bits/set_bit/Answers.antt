use Rattle.col_places.proofs.BitLemmas.{bit-kept, bit-set}
use Rattle.col_places.proofs.bits.set_bit.Goals as goal

pub returns-clause-row : goal.returns-clause-row
returns-clause-row c = bit-set c.args.words.now c.args.row c.requires

pub returns-clause-others : goal.returns-clause-others
returns-clause-others c = bit-kept c.args.words.now c.args.row c.requires
