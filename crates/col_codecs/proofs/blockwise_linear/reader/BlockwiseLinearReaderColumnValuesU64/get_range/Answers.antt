use Rattle.std.proofs.Common.{List, ◌+◌, ◌≤◌, ◌∙◌, length, map, ap, arith}
use Rattle.std.specs.List.{range_with_len}
use Rattle.col_codecs.specs.declared.blockwise_linear.block.Block.{Block}
use Rattle.col_codecs.specs.ColumnStats.{stats_seen}
use Rattle.col_codecs.proofs.BlockReaderLemmas.{length-items_in}
use Rattle.col_codecs.proofs.BlockRangeLemmas.{own_item, items_in-part}
use Rattle.col_codecs.proofs.blockwise_linear.reader.BlockwiseLinearReaderColumnValuesU64.get_range.Goals as goal

pub overflow_cast-start : goal.overflow_cast-start
overflow_cast-start c =
    let r = c.self.inside in
    omega (arith, c.requires, ap length c.self.view_is, length-items_in (stats_seen r.stats) r.blocks.items r.data)

pub read-requires-clause-within : goal.read-requires-clause-within
read-requires-clause-within c =
    let r = c.self.inside in
    omega (arith, c.requires, ap length c.self.view_is, length-items_in (stats_seen r.stats) r.blocks.items r.data)

pub returns : goal.returns
returns c =
    let r = c.self.inside in
    let s = stats_seen r.stats in
    let n = length c.args.output.now in
    let within : c.args.start + n ≤ r.stats.num_rows =
    omega (arith, c.requires, ap length c.self.view_is, length-items_in s r.blocks.items r.data) in
    rw (← c.self.view_is)
    (c.read.ensures
    ∙ ap (λ (bs : List Block). map (own_item s bs c.as_slice.result.now) (range_with_len c.args.start n)) c.deref.ensures.value
    ∙ ap (λ bytes. map (own_item s r.blocks.items bytes) (range_with_len c.args.start n)) c.as_slice.ensures
    ∙ items_in-part s r.blocks.items r.data c.args.start n within)
