-- All values of a block have places, and what is counted of them is counted of the values so far.
use Rattle.std.proofs.Common.{◌+◌, ◌==◌, length, take, drop, sym, ◌∙◌, ap, subst, arith}
use Rattle.std.specs.List.{AllByRecursion}
use Rattle.std.proofs.lemmas.List.{take_at}
use Rattle.col_facet.proofs.CountingLemmas.{part-counted}
use Rattle.col_look.specs.Places.{IsAtPlace, place_of}
use Rattle.col_look.proofs.places.count_places.Goals as goal
use Rattle.col_look.proofs.PlaceLemmas.{all-block, block-from}

pub tally-requires-clause-placed : goal.tally-requires-clause-placed
tally-requires-clause-placed g c =
    let xs = g.V.ColumnValues.values c.args.list.now in
    let len = c.read_block-len.result in
    let back = take_at c.read_block-len.new.block (drop (length c.read_block-len.new.block) c.loop-at.block.items) _
    (c.read_block-len.auto.block ∙ c.as_mut_slice.ensures.len) in
    let block = ap (take len) (c.deref.ensures.value ∙ back) ∙ c.read_block-len.ensures.values in
    let placed = subst (λ n. AllByRecursion (λ x. IsAtPlace c.args.base c.args.width n (g.T.MonotonicallyMappableToU64.code x)) xs)
    (sym c.loop-at.auto.counts) c.requires.placed in
    subst (AllByRecursion (λ x. IsAtPlace c.args.base c.args.width (length c.loop-at.counts) (g.T.MonotonicallyMappableToU64.code x)))
    (sym block) (all-block _ c.loop-at.at len xs placed)

pub loop-at-preserved : goal.loop-at-preserved
loop-at-preserved g c =
    let xs = g.V.ColumnValues.values c.args.list.now in
    let at = c.loop-at.at in
    let len = c.read_block-len.result in
    let back = take_at c.read_block-len.new.block (drop (length c.read_block-len.new.block) c.loop-at.block.items) _
    (c.read_block-len.auto.block ∙ c.as_mut_slice.ensures.len) in
    let block = ap (take len) (c.deref.ensures.value ∙ back) ∙ c.read_block-len.ensures.values in (
      omega (arith, c.read_block-len.ensures.within, c.num_vals-count.ensures),
      omega (arith, ap length back, c.read_block-len.ensures.some, c.read_block-len.ensures.fits, c.read_block-len.auto.block),
      λ i h. part-counted (λ i x. place_of c.args.base c.args.width (g.T.MonotonicallyMappableToU64.code x) == i)
          c.loop-at.counts c.tally.new.counts xs at (at + len) _ (omega arith)
          (block ∙ block-from at len xs) c.loop-at.invariant.2 c.tally.ensures i
          (omega (arith, h, c.tally.auto.counts)),
    )
