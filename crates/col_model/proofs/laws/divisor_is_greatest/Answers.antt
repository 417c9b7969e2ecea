use Rattle.col_model.proofs.DivisorLaws.{divisor-is-greatest}
use Rattle.col_model.proofs.laws.divisor_is_greatest.Goals as goal

pub returns : goal.returns
returns c = divisor-is-greatest
