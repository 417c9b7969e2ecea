use Rattle.std.proofs.Common.{◌≡◌, ◌+◌, ◌≤◌, ◌==◌, cond, [], ◌∷◌, get_or, slice_get, Some, ◌∙◌, ap, arith}
use Rattle.col_model.specs.AddressList.{code_count}
use Rattle.col_facet.proofs.codes.count_codes.Goals as goal
use Rattle.col_facet.proofs.AddressLemmas.{one-count, one-more, taken-one}
use Rattle.col_facet.proofs.CountingLemmas.{part-counted}

pub loop-idx-preserved : goal.loop-idx-preserved
loop-idx-preserved c =
    let codes = c.args.list.now.codes in
    let code = c.get_compact.result in
    let there : slice_get codes c.loop-idx.idx ≡ Some code = c.get_compact.ensures.value in (
      omega (arith, c.loop-idx-test.true),
      one-more (λ k. (1 ≤ k) × (k ≤ code_count c.args.list.now.ranges)) codes c.loop-idx.idx code there
          (c.get_compact.ensures.first, c.get_compact.ensures.last) c.loop-idx.invariant.1,
      λ i h. part-counted (λ i x. x == 1 + i) c.loop-idx.counts c.count_number.new.counts codes c.loop-idx.idx
          (c.loop-idx.idx + 1) (code ∷ []) (omega arith) (taken-one codes c.loop-idx.idx code there) c.loop-idx.invariant.2
          (λ j l. c.count_number.ensures j l ∙ ap (λ k. get_or c.loop-idx.counts j 0 + cond (k == 1 + j) 1 0) c.from.ensures
          ∙ ap (λ n. get_or c.loop-idx.counts j 0 + n) (one-count (λ x. x == 1 + j) code))
          i (omega (arith, h, c.count_number.auto.counts)),
    )
