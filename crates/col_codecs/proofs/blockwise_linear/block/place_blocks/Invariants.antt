use Rattle.std.proofs.Common.{◌≡◌, ◌-◌, ◌*◌, map}
use Rattle.col_model.proofs.BlockReadingLaws.{IsAtBlock}
use Rattle.col_codecs.specs.Blocks.{block_params}
use Rattle.col_codecs.proofs.BlockPlacingLemmas.{PlacedSoFar}
use Rattle.col_codecs.proofs.blockwise_linear.block.place_blocks.Given as goal

abbrev pub invariant-loop-at : goal.invariant-loop-at
invariant-loop-at l =
    let own = map block_params l.fn.blocks in
    record {
      standing : IsAtBlock l.num_vals own l.data l.at l.start;
      slopes : map block_params l.blocks ≡ own;
      left : l.left ≡ l.num_vals - 512 * l.at;
      placed : PlacedSoFar l.num_vals own l.blocks l.data l.at;
    }
