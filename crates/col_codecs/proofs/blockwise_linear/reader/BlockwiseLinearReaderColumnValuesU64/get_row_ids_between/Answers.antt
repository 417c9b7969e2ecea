use Rattle.std.proofs.Common.{List, ◌-◌, ◌∙◌, ap, sym, subst}
use Rattle.col_common.specs.Replacing.{Replaces}
use Rattle.col_codecs.specs.declared.blockwise_linear.block.Block.{Block}
use Rattle.col_codecs.specs.BoundedItems.{ids_by}
use Rattle.col_codecs.specs.ColumnStats.{stats_seen}
use Rattle.col_codecs.proofs.BlockReaderLemmas.{items_in-is}
use Rattle.col_codecs.proofs.BlockRangeLemmas.{own_item}
use Rattle.col_codecs.proofs.FoundLemmas.{found_values}
use Rattle.col_codecs.proofs.blockwise_linear.reader.BlockwiseLinearReaderColumnValuesU64.get_row_ids_between.Goals as goal

pub returns : goal.returns
returns c =
    let a = c.args in
    let r = c.self.inside in
    let s = stats_seen r.stats in
    let from = a.rows.start in
    subst (Replaces c.find_ids.result c.find_ids.new.hits.items)
    (ap (λ (bs : List Block). ids_by (own_item s bs c.as_slice.result.now) a.low a.high from (c.min.result - from)) c.deref.ensures.value
    ∙ ap (λ read. ids_by (own_item s r.blocks.items read) a.low a.high from (c.min.result - from)) c.as_slice.ensures
    ∙ found_values (own_item s r.blocks.items r.data) a.self.now r.stats.num_rows a.low a.high from a.rows.«end»
    c.min.result (sym (items_in-is s r.blocks.items r.data) ∙ c.self.view_is) c.min.ensures)
    c.find_ids.ensures
