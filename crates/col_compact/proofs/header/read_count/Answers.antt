use Rattle.std.proofs.Common.{Some, sym, ◌∙◌, ap}
use Rattle.col_compact.proofs.HeaderLemmas.{header-behind}
use Rattle.col_compact.proofs.header.read_count.Goals as goal

pub returns-clause-rest : goal.returns-clause-rest
returns-clause-rest c =
    (header-behind c.args.bytes.now c.in_ok-count.rest.now c.in_ok-count.count (λ k. (c.type_inv.bytes k).fits)
    (sym c.in_ok-count.ensures)).0

pub returns-clause-count : goal.returns-clause-count
returns-clause-count c =
    ap (λ rest. Some (c.in_ok-count.count, rest)) (header-behind c.args.bytes.now c.in_ok-count.rest.now
    c.in_ok-count.count (λ k. (c.type_inv.bytes k).fits) (sym c.in_ok-count.ensures)).1 ∙ c.in_ok-count.ensures
