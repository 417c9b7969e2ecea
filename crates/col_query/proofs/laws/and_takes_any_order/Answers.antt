use Rattle.col_query.proofs.LawLemmas.{and_in_any_order_lem}
use Rattle.col_query.proofs.laws.and_takes_any_order.Goals as goal

pub returns : goal.returns
returns c = and_in_any_order_lem
