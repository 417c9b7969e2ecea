use Rattle.col_merge_values.proofs.MergedCellLemmas.{merged-cells}
use Rattle.col_merge_values.proofs.laws.merged_cells_are_picked.Goals as goal

pub returns : goal.returns
returns g c = merged-cells g.row.T.Denot
