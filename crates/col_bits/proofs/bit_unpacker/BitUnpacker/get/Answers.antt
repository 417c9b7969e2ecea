use Rattle.std.proofs.Common.{◌∙◌, sym}
use Rattle.col_bits.proofs.WindowLemmas.{packed-at}
use Rattle.col_bits.proofs.bit_unpacker.BitUnpacker.get.Goals as goal

pub returns-clause-packed : goal.returns-clause-packed
returns-clause-packed c n items below e =
    packed-at c.args.data.now c.args.self.now n c.args.idx items e below ∙ sym c.item_at.ensures
