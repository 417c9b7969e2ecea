-- Marks of a block are those of the values so far, beside those of before.
use Rattle.std.proofs.Common.{◌==◌, false, get_or, length, take, drop, ◌∙◌, ap, arith}
use Rattle.std.proofs.lemmas.List.{take_at}
use Rattle.col_numbers.specs.NumValues.{num_values_of}
use Rattle.col_look.proofs.terms.mark_all.Goals as goal
use Rattle.col_look.proofs.TermLemmas.{marked-next}

pub loop-at-preserved : goal.loop-at-preserved
loop-at-preserved c =
    let len = c.read_block-len.result in
    let back = take_at c.read_block-len.new.block (drop (length c.read_block-len.new.block) c.loop-at.block.items) _
    (c.read_block-len.auto.block ∙ c.as_mut_slice.ensures.len) in
    let block = ap (take len) (c.deref.ensures.value ∙ back) ∙ c.read_block-len.ensures.values in (
      omega (arith, c.read_block-len.ensures.within, c.num_vals-count.ensures),
      omega (arith, ap length back, c.read_block-len.ensures.some, c.read_block-len.ensures.fits, c.read_block-len.auto.block),
      λ i. marked-next (λ n. n == i) (num_values_of c.args.list.now) _ c.loop-at.at len
          (get_or c.loop-at.marks i false) (get_or c.mark_each.new.marks i false) block
          (c.loop-at.invariant.2 i) (c.mark_each.ensures i),
    )
