use Rattle.std.proofs.Common.{◌≤◌, arith}
use Rattle.std.proofs.lemmas.Bool.Decides.{nat_tests}
use Rattle.col_bits.proofs.GroupLemmas.{item_fits}
use Rattle.col_codecs.proofs.packed_items.PackedItemsBoundedItems.is_small.Goals as goal

pub returns : goal.returns
returns c = λ small i.
    let w = c.args.self.now.bit_unpacker in
    let narrow : w ≤ 32 = grind (arith, nat_tests, small, c.bit_width.ensures) in
    item_fits c.args.self.now.bytes.now w i narrow
