use Rattle.std.proofs.Common.{◌+◌, ◌/◌, ◌∙◌, ◌≤◌, ◌≡◌, length, get_or, ap, arith}
use Rattle.col_codecs.specs.ColumnStats.{stats_seen}
use Rattle.col_codecs.proofs.BlockStepsLemmas.{block-found}
use Rattle.col_codecs.proofs.BlockRangeLemmas.{room-kept, range-more, range-read}
use Rattle.col_codecs.proofs.blockwise_linear.reader.ItemsInBlocksBoundedItems.read.Goals as goal

pub loop-filled-preserved : goal.loop-filled-preserved
loop-filled-preserved c =
    let filled = c.loop-filled.filled in
    let output = c.loop-filled.output in
    let len = c.min-len.result in
    let idx = c.args.start + filled in
    let bs = c.args.self.now.blocks.now in
    let b = get_or bs (idx / 512) c.index-self-idx.result in
    let part = c.read_part.new.output in
    let room : filled + len ≤ length output = omega (arith, c.min-len.ensures) in
    let long : length part ≡ len = omega (arith, c.read_part.auto.output) in
    let kept = room-kept filled len output part room long in
    record {
      room = kept ∙ c.loop-filled.invariant.room;
      within = omega (arith, room, kept);
      held =
          range-more (stats_seen c.args.self.now.stats) c.args.self.now.blocks.now c.args.self.now.bytes.now b
          c.args.start filled len _ output part room (omega (arith, c.min-len.ensures))
          (block-found bs (idx / 512) b (omega arith) (ap (get_or bs (idx / 512)) c.index-self-idx.is)) long
          c.read_part.auto.output c.read_part.ensures c.loop-filled.invariant.held;
    }

pub returns : goal.returns
returns c =
    range-read (stats_seen c.args.self.now.stats) c.args.self.now.blocks.now c.args.self.now.bytes.now c.args.start
    c.loop-filled.filled (length c.args.output.now) c.loop-filled.output c.loop-filled.invariant.room
    (omega (arith, c.loop-filled.invariant.within, c.loop-filled.invariant.room)) c.loop-filled.invariant.held
