use Rattle.std.proofs.Common.{◌≡◌, subst, map}
use Rattle.std.specs.Prelude.{IfOk}
use Rattle.col_writer_columns.proofs.OrderLemmas.{given-docs}
use Rattle.col_writer_columns.proofs.sort_order.docs_by_number.Goals as goal

pub returns : goal.returns
returns c =
    given-docs (λ v. v.items) c.args.reversed c.args.firsts.now c.in_ok-pairs.pairs.items
    c.sort_unstable.new.self.items c.docs_of.result c.in_ok-pairs.ensures.fit c.requires
    c.in_ok-pairs.ensures.pairs c.sort_unstable.ensures.permutation c.sort_unstable.ensures.sorted
    (subst (λ r. IfOk c.docs_of.result (λ v. v.items ≡ map (λ p. p.1) r)) c.deref.ensures.value c.docs_of.ensures)
