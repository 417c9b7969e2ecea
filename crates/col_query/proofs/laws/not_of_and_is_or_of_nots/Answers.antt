use Rattle.col_query.proofs.LawLemmas.{not_of_and_lem}
use Rattle.col_query.proofs.laws.not_of_and_is_or_of_nots.Goals as goal

pub returns : goal.returns
returns c = not_of_and_lem
