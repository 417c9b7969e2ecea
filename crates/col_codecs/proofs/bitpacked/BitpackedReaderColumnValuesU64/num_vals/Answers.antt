use Rattle.std.proofs.Common.{sym}
use Rattle.col_codecs.specs.ColumnStats.{stats_seen}
use Rattle.col_codecs.proofs.BitpackedLemmas.{length-bitpacked_items}
use Rattle.col_codecs.proofs.bitpacked.BitpackedReaderColumnValuesU64.num_vals.Goals as goal

pub returns : goal.returns
returns c = rw (← c.self.view_is) (sym (length-bitpacked_items (stats_seen c.self.inside.stats) c.self.inside.data))
