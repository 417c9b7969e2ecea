use Rattle.std.proofs.Common.{◌≡◌, ◌+◌, ◌*◌, ap, ◌∙◌, arith, sym, take_all, length-set, take}
use Rattle.col_bits.specs.Packed.{items}
use Rattle.col_bits.proofs.GroupLemmas.{decoded_more}
use Rattle.col_bits.proofs.const_width.decode.Goals as goal

pub loop-k-preserved : goal.loop-k-preserved
loop-k-preserved g c =
    let i = c.loop-k.invariant in
    record {
      long = length-set c.loop-k.block (8 * c.loop-g.g + c.loop-k.k) c.in_group.result ∙ i.long;
      so_far =
          decoded_more c.args.data.now g.row.W c.args.group c.loop-g.g c.loop-k.k _ c.in_group.result c.loop-k.block
          (omega arith) (omega arith) c.in_group.ensures.value i.so_far;
    }

pub returns : goal.returns
returns g c =
    let all : 8 * c.loop-g.g ≡ 64 = omega arith in
    sym (take_all 64 c.loop-g.block (omega (arith, c.loop-g.invariant.long)))
    ∙ (ap (λ n. take n c.loop-g.block) (sym all)
    ∙ (c.loop-g.invariant.so_far ∙ ap (items c.args.data.now g.row.W (8 * c.args.group)) all))
