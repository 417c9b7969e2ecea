use Rattle.col_terms.proofs.GivenLemmas.{terms-are-those-given}
use Rattle.col_terms.proofs.laws.terms_are_those_given.Goals as goal

pub returns : goal.returns
returns c = terms-are-those-given
