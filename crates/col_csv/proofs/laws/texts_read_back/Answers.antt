use Rattle.col_csv.proofs.ReadBackLemmas.{reads-back}
use Rattle.col_csv.proofs.laws.texts_read_back.Goals as goal

pub returns : goal.returns
returns c = reads-back
