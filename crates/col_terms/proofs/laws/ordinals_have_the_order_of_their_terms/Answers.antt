use Rattle.col_terms.proofs.WritingLemmas.{ordinals_in_order}
use Rattle.col_terms.proofs.laws.ordinals_have_the_order_of_their_terms.Goals as goal

pub returns : goal.returns
returns c = ordinals_in_order
