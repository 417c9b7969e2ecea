use Rattle.col_terms.proofs.WritingLemmas.{read_back}
use Rattle.col_terms.proofs.laws.dictionaries_are_read_back.Goals as goal

pub returns : goal.returns
returns c = read_back
