use Rattle.col_column.proofs.CellLemmas.{by_cells}
use Rattle.col_column.proofs.laws.lookups_are_those_of_cells.Goals as goal

pub returns : goal.returns
returns g c = by_cells g.T.PartialOrd.partial_cmp g.T.HasAssociatedColumnType.cell g.met.T.HasAssociatedColumnType.laws
