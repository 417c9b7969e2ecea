use Rattle.std.proofs.Common.{◌≤◌, ◌+◌, ◌*◌, ◌∙◌, sym, ap, arith, length, length-set}
use Rattle.std.specs.Vec.{with_item, with_items}
use Rattle.col_model.specs.Codecs.{block_size}
use Rattle.col_codecs.proofs.BlockEstimateLemmas.{block_estimate-bound}
use Rattle.col_codecs.proofs.BlockCollectedLemmas.{collected-bound, collected-full}
use Rattle.col_codecs.proofs.blockwise_linear.estimator.BlockwiseLinearEstimator.take.Goals as goal

pub overflow_add-self-then-self-eq-BLOCK_SIZE : goal.overflow_add-self-then-self-eq-BLOCK_SIZE
overflow_add-self-then-self-eq-BLOCK_SIZE c =
    let h = c.requires.1 in
    let long : length c.deref_mut.result.now ≤ block_size =
    omega (
      arith,
      ap length c.deref_mut.ensures.value,
      length-set c.args.self.now.block.items c.args.self.now.len c.args.value,
      h.room,
    ) in
    let small : c.estimate_block.result ≤ 9 * block_size =
    omega (arith, c.estimate_block.ensures, block_estimate-bound c.deref_mut.result.now long) in
    omega (arith, collected-bound c.args.self.now c.requires.0 h c.estimate_block.result (omega arith) small)

pub returns-then-self-eq-BLOCK_SIZE : goal.returns-then-self-eq-BLOCK_SIZE
returns-then-self-eq-BLOCK_SIZE c = λ xs h.
    let e = c.args.self.now in
    let buffer = with_items (with_item e.block e.len c.args.value) c.estimate_block.new.vals in
    collected-full e xs h c.args.value c.deref_mut.result.now buffer (e.num_bytes + c.estimate_block.result)
    c.if-self-eq-BLOCK_SIZE.true c.deref_mut.ensures.value (ap (λ n. e.num_bytes + n) c.estimate_block.ensures)
    (sym buffer.ok.0 ∙ e.block.ok.0 ∙ h.room)
