-- What is collected for an estimate of BlockwiseLinear.
use Rattle.std.proofs.Common.{◌≡◌, ℕ, ◌+◌, ◌*◌, ◌^◌, ◌<◌, ◌≤◌, List, [], ◌∷◌, ◌++◌, length, take, map, sum, set, sym, ◌∙◌, ap, arith, append_assoc, append-nil, length-append, length-set}
use Rattle.std.specs.Prelude.{Vec}
use Rattle.std.specs.declared.alloc.Global.{Global}
use Rattle.std.proofs.lemmas.List.{take_all, take_more_set, length-take-le}
use Rattle.col_model.specs.Codecs.{block_size, block_estimate, blocks_of}
use Rattle.col_codecs.specs.declared.blockwise_linear.estimator.BlockwiseLinearEstimator.{BlockwiseLinearEstimator}
use Rattle.col_codecs.specs.Blockwise.{IsCollected}
use Rattle.col_codecs.proofs.BlockEstimateLemmas.{estimated, estimated-push, estimated-bound, estimated-last}

module _ (e : BlockwiseLinearEstimator) (xs : List ℕ) (h : IsCollected e xs) where
  length-held : length (take e.len e.block.items) ≡ e.len
  length-held = length-take-le e.len e.block.items (omega (arith, h.room, h.short))

  -- the sum so far, and another block, fit
  pub collected-bound : (b : ℕ) → length xs < 2 ^ 32 → b ≤ 9 * block_size → e.num_bytes + b < 2 ^ 64
  collected-bound b few small =
      omega (
        arith,
        h.estimated,
        small,
        estimated-bound h.count h.whole h.long,
        ap length h.split,
        length-append h.whole (take e.len e.block.items),
      )

  -- the block is full with one value more
  pub collected-full : (value : ℕ) (block : List ℕ) (buffer : Vec ℕ Global) (n : ℕ) → e.len + 1 ≡ block_size
      → block ≡ set e.block.items e.len value → n ≡ e.num_bytes + block_estimate block
      → length buffer.items ≡ block_size
      → let next : BlockwiseLinearEstimator = record { block = buffer; len = 0; num_bytes = n } in IsCollected next
      (xs ++ value ∷ [])
  collected-full value block buffer n full e1 e2 e3 =
      let room : e.len < length e.block.items = omega (arith, h.room) in
      let long : length block ≡ block_size = ap length e1 ∙ length-set e.block.items e.len value ∙ h.room in
      let one : e.len + 1 ≡ length block = omega (arith, full, long) in
      let all : take e.len e.block.items ++ value ∷ [] ≡ block =
      sym (take_more_set e.block.items e.len value room) ∙ ap (take (e.len + 1)) (sym e1)
      ∙ take_all (e.len + 1) block (omega (arith, one)) in
      record {
        whole = h.whole ++ block;
        count = h.count + 1;
        long = omega (arith, length-append h.whole block, h.long, long);
        split =
            ap (λ ys. ys ++ value ∷ []) h.split
            ∙ append_assoc h.whole (take e.len e.block.items) (value ∷ [])
            ∙ ap (λ ys. h.whole ++ ys) all
            ∙ sym (append-nil (h.whole ++ block));
        estimated =
            e2 ∙ ap (λ n. n + block_estimate block) h.estimated
            ∙ sym (estimated-push h.count h.whole block h.long (omega (arith, long)));
        room = e3;
        short = omega arith;
      }

  -- the last block is shorter
  pub collected-last : (block : List ℕ) (n : ℕ) → 0 < e.len → block ≡ take e.len e.block.items
      → n ≡ e.num_bytes + block_estimate block → n ≡ sum (map block_estimate (blocks_of xs))
  collected-last block n some e1 e2 =
      e2
      ∙ ap (λ m. m + block_estimate block) h.estimated
      ∙ ap (λ ys. estimated h.count h.whole + block_estimate ys) e1
      ∙ estimated-last h.count h.whole (take e.len e.block.items) h.long (omega (arith, length-held, h.short)) (omega (arith, length-held))
      ∙ ap (λ ys. sum (map block_estimate (blocks_of ys))) (sym h.split)
