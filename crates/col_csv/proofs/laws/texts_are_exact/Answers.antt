use Rattle.col_csv.proofs.ExactLemmas.{are-exact}
use Rattle.col_csv.proofs.laws.texts_are_exact.Goals as goal

pub returns : goal.returns
returns c = are-exact
