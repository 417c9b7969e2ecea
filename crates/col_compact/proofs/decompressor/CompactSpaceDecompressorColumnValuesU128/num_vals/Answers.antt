use Rattle.std.proofs.Common.{◌∙◌}
use Rattle.col_compact.proofs.LookupLemmas.{numbers-count}
use Rattle.col_compact.proofs.decompressor.CompactSpaceDecompressorColumnValuesU128.num_vals.Goals as goal

pub returns : goal.returns
returns c = c.num_vals.ensures.value ∙ (numbers-count c.self.inside.params c.self.inside.data c.args.self.now c.self.view_is).0
