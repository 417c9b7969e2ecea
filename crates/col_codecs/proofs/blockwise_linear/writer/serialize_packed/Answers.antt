use Rattle.std.proofs.Common.{◌≡◌, ◌++◌, ◌∙◌, ap, sym, arith, drop, take, refl, length-append}
use Rattle.std.proofs.lemmas.List.{length-take, length-drop}
use Rattle.std.proofs.lemmas.Result.{err_from_is_err_and}
use Rattle.col_common.proofs.SerializingLemmas.{serializes-as, serializes-nothing, serializes-stopped, serializes-then}
use Rattle.col_model.specs.Codecs.{cut_blocks, steps_above, packed_block, block_line, params_bytes}
use Rattle.col_model.proofs.CutLaws.{block_at}
use Rattle.col_codecs.specs.ColumnStats.{stats_seen}
use Rattle.col_codecs.proofs.BlockWritingLemmas.{taken-count, packed_so_far, lines_so_far, packed_so_far-more, lines_so_far-more, steps_above-block, IsBlock-taken, all_blocks, left-next}
use Rattle.col_codecs.proofs.blockwise_linear.writer.serialize_packed.Goals as goal

pub loop-block_id-init : goal.loop-block_id-init
unfolding cut_blocks
loop-block_id-init g c =
    record {
      stands = c.walk-at.ensures.stands;
      left = c.walk-at.ensures.front;
      written = serializes-nothing _ tt;
      gathered = c.requires.empty;
      room = refl;
    }

pub serialize_block-requires : goal.serialize_block-requires
serialize_block-requires g c =
    let k = c.loop-block_id._block_id in
    let xs = g.I.Iterable.items c.args.vals.now in
    let n = c.take_block-taken.result in
    let inv = c.loop-block_id.invariant in
    let count = taken-count xs c.loop-block_id.block _ k n c.take_block-taken.ensures.count inv.room inv.left in
    IsBlock-taken (stats_seen c.args.stats.now) xs (take n c.take_block-taken.new.block)
    c.div_ceil-block_id-end.result k n c.requires.stats c.div_ceil-block_id-end.ensures
    c.loop-block_id-test.true count
    (c.take_block-taken.ensures.taken ∙ ap (take n) c.loop-block_id.invariant.left)

pub returns-in_err-serialize_block-clause-packed : goal.returns-in_err-serialize_block-clause-packed
returns-in_err-serialize_block-clause-packed g c =
    let p = err_from_is_err_and c.from_residual-in_err-serialize_block.result c.from_residual-in_err-serialize_block.ensures.1 in
    rw (p.1, p.2) (serializes-stopped _ _ _ _ _
    (serializes-then _ _ _ _ _ _ _ c.loop-block_id.invariant.written c.in_err-serialize_block.ensures.packed))

pub loop-block_id-preserved : goal.loop-block_id-preserved
loop-block_id-preserved g c =
    let s = stats_seen c.args.stats.now in
    let k = c.loop-block_id._block_id in
    let xs = g.I.Iterable.items c.args.vals.now in
    let steps = steps_above s xs in
    let n = c.take_block-taken.result in
    let part = take n c.take_block-taken.new.block in
    let inv = c.loop-block_id.invariant in
    let count = taken-count xs c.loop-block_id.block _ k n c.take_block-taken.ensures.count inv.room inv.left in
    let block : steps_above s part ≡ block_at k steps =
    steps_above-block s xs part k n count
    (c.take_block-taken.ensures.taken ∙ ap (take n) c.loop-block_id.invariant.left) in
    record {
      stands = c.take_block-taken.ensures.stands;
      left = c.take_block-taken.ensures.left ∙ ap (drop n) c.loop-block_id.invariant.left ∙ left-next xs k n count;
      written =
          serializes-as _ _ _ _ _
          (serializes-then _ _ _ _ _ _ _ c.loop-block_id.invariant.written c.in_ok-serialize_block.ensures.packed)
          (ap (λ b. packed_so_far steps k ++ packed_block b) block ∙ sym (packed_so_far-more steps k));
      gathered =
          c.in_ok-serialize_block.ensures.line
          ∙ ap (λ ls. ls ++ params_bytes (block_line (steps_above s part))) c.loop-block_id.invariant.gathered
          ∙ ap (λ b. lines_so_far steps k ++ params_bytes (block_line b)) block
          ∙ sym (lines_so_far-more steps k);
      room =
          omega (
            arith,
            length-append c.serialize_block.new.vals (drop n c.take_block-taken.new.block),
            c.serialize_block.auto.vals,
            length-take n c.take_block-taken.new.block,
            length-drop n c.take_block-taken.new.block,
            c.take_block-taken.auto.block,
            c.loop-block_id.invariant.room,
            count,
          );
    }

pub returns-clause-packed : goal.returns-clause-packed
returns-clause-packed g c =
    let s = stats_seen c.args.stats.now in
    let xs = g.I.Iterable.items c.args.vals.now in
    serializes-as _ _ _ _ _ c.loop-block_id.invariant.written
    (ap (packed_so_far (steps_above s xs)) (all_blocks s xs c.div_ceil-block_id-end.result c.loop-block_id._block_id
    c.requires.stats c.div_ceil-block_id-end.ensures (omega arith)))

pub returns-clause-lines : goal.returns-clause-lines
returns-clause-lines g c =
    let s = stats_seen c.args.stats.now in
    let xs = g.I.Iterable.items c.args.vals.now in
    c.loop-block_id.invariant.gathered
    ∙ ap (lines_so_far (steps_above s xs)) (all_blocks s xs c.div_ceil-block_id-end.result c.loop-block_id._block_id
    c.requires.stats c.div_ceil-block_id-end.ensures (omega arith))
