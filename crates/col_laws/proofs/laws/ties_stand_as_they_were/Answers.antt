use Rattle.col_laws.proofs.SortLemmas.{ties-stand-as-they-were}
use Rattle.col_laws.proofs.laws.ties_stand_as_they_were.Goals as goal

pub returns : goal.returns
returns c = ties-stand-as-they-were
