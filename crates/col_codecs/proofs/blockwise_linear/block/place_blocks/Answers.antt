use Rattle.std.proofs.Common.{arith, refl, map}
use Rattle.col_model.proofs.BlockReadingLaws.{at_block-first}
use Rattle.std.proofs.lemmas.List.{length-map}
use Rattle.col_codecs.specs.Blocks.{block_params}
use Rattle.col_codecs.proofs.BlockPlacingLemmas.{PlacedSoFar-none, placing-end, placing-short, placing-spare, placing-next, placing-slopes, placing-placed}
use Rattle.col_codecs.proofs.blockwise_linear.block.place_blocks.Goals as goal

pub loop-at-init : goal.loop-at-init
loop-at-init c =
    let own = map block_params c.args.blocks.now in
    record {
      standing = at_block-first c.args.num_vals own c.args.data.now;
      slopes = refl;
      left = omega arith;
      placed = PlacedSoFar-none c.args.num_vals own c.args.blocks.now c.args.data.now;
    }

pub returns-then-num_bytes-data-clause-packed : goal.returns-then-num_bytes-data-clause-packed
returns-then-num_bytes-data-clause-packed c =
    placing-short c.args.num_vals (map block_params c.args.blocks.now) c.loop-at.blocks c.args.data.now c.loop-at.at
    c.loop-at.start c.loop-at.left c.min-len.result c.bit_width.result c.div_ceil-num_bytes.result
    c.index-blocks-at.result c.loop-at.invariant.standing c.loop-at.invariant.slopes
    (omega (arith, c.loop-at.auto.blocks)) c.index-blocks-at.is c.loop-at.invariant.left c.min-len.ensures
    c.bit_width.ensures c.div_ceil-num_bytes.ensures
    c.if-num_bytes-data.true

pub returns-then-not-is_packed-clause-packed : goal.returns-then-not-is_packed-clause-packed
returns-then-not-is_packed-clause-packed c =
    placing-spare c.args.num_vals (map block_params c.args.blocks.now) c.loop-at.blocks c.args.data.now c.loop-at.at
    c.loop-at.start c.loop-at.left c.min-len.result c.bit_width.result c.div_ceil-num_bytes.result
    c.index-blocks-at.result c.loop-at.invariant.standing c.loop-at.invariant.slopes
    (omega (arith, c.loop-at.auto.blocks)) c.index-blocks-at.is c.loop-at.invariant.left c.min-len.ensures
    c.bit_width.ensures c.div_ceil-num_bytes.ensures
    c.is_packed.result c.is_packed.ensures c.if-not-is_packed.true

pub loop-at-preserved : goal.loop-at-preserved
loop-at-preserved c = record {
  standing =
      placing-next c.args.num_vals (map block_params c.args.blocks.now) c.loop-at.blocks c.args.data.now
      c.loop-at.at c.loop-at.start c.loop-at.left c.min-len.result c.bit_width.result
      c.div_ceil-num_bytes.result c.index-blocks-at.result c.loop-at.invariant.standing
      c.loop-at.invariant.slopes (omega (arith, c.loop-at.auto.blocks)) c.index-blocks-at.is
      c.loop-at.invariant.left c.min-len.ensures c.bit_width.ensures c.div_ceil-num_bytes.ensures
      c.is_packed.result (omega (arith, c.loop-at.invariant.standing.within)) c.is_packed.ensures c.if-not-is_packed.false;
  slopes =
      placing-slopes c.args.num_vals (map block_params c.args.blocks.now) c.loop-at.blocks c.args.data.now
      c.loop-at.at c.loop-at.start c.loop-at.left c.min-len.result c.bit_width.result c.div_ceil-num_bytes.result
      c.index-blocks-at.result c.loop-at.invariant.standing c.loop-at.invariant.slopes
      (omega (arith, c.loop-at.auto.blocks)) c.index-blocks-at.is c.loop-at.invariant.left c.min-len.ensures
      c.bit_width.ensures c.div_ceil-num_bytes.ensures;
  left = omega (arith, c.loop-at.invariant.left, c.min-len.ensures);
  placed =
      placing-placed c.args.num_vals (map block_params c.args.blocks.now) c.loop-at.blocks c.args.data.now
      c.loop-at.at c.loop-at.start c.loop-at.left c.min-len.result c.bit_width.result c.div_ceil-num_bytes.result
      c.index-blocks-at.result c.loop-at.invariant.standing c.loop-at.invariant.slopes
      (omega (arith, c.loop-at.auto.blocks)) c.index-blocks-at.is c.loop-at.invariant.left c.min-len.ensures
      c.bit_width.ensures c.div_ceil-num_bytes.ensures c.loop-at.invariant.placed;
}

pub returns-clause-packed : goal.returns-clause-packed
returns-clause-packed c =
    placing-end c.args.num_vals (map block_params c.args.blocks.now) c.args.data.now c.loop-at.at c.loop-at.start
    c.loop-at.invariant.standing (omega (arith, length-map c.args.blocks.now block_params))
