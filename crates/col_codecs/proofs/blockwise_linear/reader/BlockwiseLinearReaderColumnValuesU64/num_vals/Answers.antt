use Rattle.std.proofs.Common.{sym, ap, ◌∙◌, length}
use Rattle.col_codecs.specs.ColumnStats.{stats_seen}
use Rattle.col_codecs.proofs.BlockReaderLemmas.{length-items_in}
use Rattle.col_codecs.proofs.blockwise_linear.reader.BlockwiseLinearReaderColumnValuesU64.num_vals.Goals as goal

pub returns : goal.returns
returns c =
    sym (ap length (sym c.self.view_is)
    ∙ length-items_in (stats_seen c.self.inside.stats) c.self.inside.blocks.items c.self.inside.data)
