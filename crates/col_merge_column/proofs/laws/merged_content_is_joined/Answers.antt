use Rattle.col_merge_column.proofs.TextSlotLemmas.{merged-joined}
use Rattle.col_merge_column.proofs.laws.merged_content_is_joined.Goals as goal

pub returns : goal.returns
returns c = merged-joined
