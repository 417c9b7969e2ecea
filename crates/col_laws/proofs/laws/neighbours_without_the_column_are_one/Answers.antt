use Rattle.col_laws.proofs.NeighbourLemmas.{neighbours-are-one}
use Rattle.col_laws.proofs.laws.neighbours_without_the_column_are_one.Goals as goal

pub returns : goal.returns
returns c = neighbours-are-one
