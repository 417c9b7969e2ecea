use Rattle.std.proofs.Common.{◌≤◌, ◌+◌, ◌*◌, ◌∙◌, ap, arith, length}
use Rattle.std.proofs.lemmas.List.{length-take-le}
use Rattle.col_model.specs.Codecs.{block_size}
use Rattle.col_codecs.proofs.BlockEstimateLemmas.{block_estimate-bound}
use Rattle.col_codecs.proofs.BlockCollectedLemmas.{collected-bound, collected-last}
use Rattle.col_codecs.proofs.blockwise_linear.estimator.BlockwiseLinearEstimator.take_last.Goals as goal

pub overflow_add-self : goal.overflow_add-self
overflow_add-self c =
    let h = c.requires.1 in
    let e = c.args.self.now in
    let long : length c.deref_mut.result.now ≤ block_size =
    omega (
      arith,
      ap length c.deref_mut.ensures.value,
      ap length c.truncate.ensures.items,
      length-take-le e.len e.block.items (omega (arith, h.room, h.short)),
      h.short,
    ) in
    let small : c.estimate_block.result ≤ 9 * block_size =
    omega (arith, c.estimate_block.ensures, block_estimate-bound c.deref_mut.result.now long) in
    omega (arith, collected-bound e c.requires.0 h c.estimate_block.result (omega arith) small)

pub returns-then-self-gt0 : goal.returns-then-self-gt0
returns-then-self-gt0 c = λ xs h.
    let e = c.args.self.now in
    collected-last e xs h c.deref_mut.result.now (e.num_bytes + c.estimate_block.result) c.if-self-gt0.true
    (c.deref_mut.ensures.value ∙ c.truncate.ensures.items) (ap (λ n. e.num_bytes + n) c.estimate_block.ensures)
