use Rattle.std.proofs.Common.{arith}
use Rattle.col_codecs.specs.ColumnStats.{stats_seen}
use Rattle.col_codecs.proofs.BlockReaderLemmas.{read-room, read-start, read-item}
use Rattle.col_codecs.proofs.blockwise_linear.reader.BlockwiseLinearReaderColumnValuesU64.get_val.Goals as goal

pub index-block-requires : goal.index-block-requires
index-block-requires c =
    let r = c.self.inside in
    omega (
      arith,
      r.blocks.ok.0,
      read-room (stats_seen r.stats) r.blocks.items r.data c.args.self.now c.args.idx
          c.self.view_is c.self.invariant.0 c.requires,
    )

pub step_at-step-requires : goal.step_at-step-requires
step_at-step-requires c =
    let r = c.self.inside in
    rw c.as_slice.ensures (read-start (stats_seen r.stats) r.blocks.items r.data c.args.self.now c.args.idx
    c.self.view_is c.self.invariant.0 c.requires c.index-block.result.now c.index-block.ensures)

pub returns : goal.returns
returns c =
    let r = c.self.inside in
    read-item (stats_seen r.stats) r.blocks.items r.data c.args.self.now c.args.idx c.self.view_is
    c.self.invariant.0 c.requires c.index-block.result.now c.as_slice.result.now c.step_at-step.result
    c.index-block.ensures c.as_slice.ensures c.step_at-step.ensures
