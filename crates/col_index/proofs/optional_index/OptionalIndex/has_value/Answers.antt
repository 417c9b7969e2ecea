use Rattle.std.proofs.Common.{◌∙◌}
use Rattle.col_index.proofs.PositionLemmas.{set-holds}
use Rattle.col_index.proofs.optional_index.OptionalIndex.has_value.Goals as goal

pub returns : goal.returns
returns c = c.contains.ensures ∙ set-holds c.args.self.now c.rows_rise.ensures c.args.doc_id
