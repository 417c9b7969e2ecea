use Rattle.col_merge_column.proofs.SlotLemmas.{picked-joined}
use Rattle.col_merge_column.proofs.laws.picked_content_is_joined.Goals as goal

pub returns : goal.returns
returns g c = picked-joined g.row.T.Denot
