use Rattle.std.proofs.Common.{◌≡◌, take, ap, sym, ◌∙◌, arith}
use Rattle.col_bits.specs.Packed.{items}
use Rattle.col_bits.proofs.ItemLemmas.{items_more}
use Rattle.col_bits.proofs.bit_unpacker.BitUnpacker.read.Goals as goal

pub loop-i-preserved : goal.loop-i-preserved
loop-i-preserved g c =
    items_more c.args.data.now c.args.self.now c.args.start c.loop-i.i c.item_at.result c.loop-i.output
    (omega arith) c.item_at.ensures c.loop-i.invariant

pub returns : goal.returns
returns g c =
    let all : c.loop-i.i ≡ c.args.to = omega arith in
    ap (λ n. take n c.loop-i.output) (sym all) ∙ (c.loop-i.invariant ∙ ap (items c.args.data.now c.args.self.now c.args.start) all)
