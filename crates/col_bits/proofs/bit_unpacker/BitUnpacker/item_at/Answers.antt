use Rattle.std.proofs.Common.{◌∙◌, ap}
use Rattle.col_bits.specs.Packed.{item}
use Rattle.col_bits.proofs.WordLemmas.{item_in_word}
use Rattle.col_bits.proofs.bit_unpacker.BitUnpacker.item_at.Goals as goal

pub returns : goal.returns
returns g c =
    let s = c.self.inside in
    item_in_word c.args.data.now c.args.idx s.num_bits s.mask c.word_at.result c.self.invariant.1 c.self.invariant.0 c.word_at.ensures
    ∙ ap (λ w. item c.args.data.now w c.args.idx) c.self.view_is
