use Rattle.std.proofs.Common.{not}
use Rattle.col_query.proofs.SetLemmas.{or_of_neither}
use Rattle.col_query.proofs.stack.either.Goals as goal

pub returns : goal.returns
returns c =
    λ p q a b. or_of_neither c.args.num_docs p q c.not.result
    (c.not.ensures c.args.num_docs _ (c.in_ok-neither.ensures (λ d. not (p d)) (λ d. not (q d))
    (c.not-left.ensures c.args.num_docs p a) (c.not-right.ensures c.args.num_docs q b)))
