use Rattle.col_merge_values.proofs.MergedRowLemmas.{merged-rows}
use Rattle.col_merge_values.proofs.laws.merged_values_are_rows.Goals as goal

pub returns : goal.returns
returns g c = merged-rows g.row.T.Denot
