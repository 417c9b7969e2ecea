use Rattle.std.proofs.Common.{ℕ, subst}
use Rattle.col_program.specs.Queries.{holds}
use Rattle.col_query.specs.Sets.{IsSetOf}
use Rattle.col_query.proofs.StackLemmas.{joined_is}
use Rattle.col_query.proofs.stack.put_joined.Goals as goal

pub returns : goal.returns
returns c =
    λ t q p r qs same low is s e.
    let P : ℕ → Type 0 = λ n. IsSetOf n (holds t p) c.args.below in
    let Q : ℕ → Type 0 = λ n. IsSetOf n (holds t q) c.args.top in
    c.put_set.ensures t r qs s (joined_is t c.args.num_docs c.args.joint q p r c.in_ok-set.set same e
    (c.in_ok-set.ensures (holds t p) (holds t q) (subst P same low) (subst Q same is)))
