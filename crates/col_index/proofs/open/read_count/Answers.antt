use Rattle.std.proofs.Common.{ap, sym, ◌∙◌, Some, arith}
use Rattle.col_index.proofs.OpeningLemmas.{vint-behind, row_count-fits}
use Rattle.col_index.proofs.open.read_count.Goals as goal

pub returns-clause-count : goal.returns-clause-count
returns-clause-count c =
    ap (λ rest. Some (c.in_ok-count.count, rest)) (vint-behind c.args.bytes.now c.in_ok-count.rest.now
    c.in_ok-count.count (λ k. (c.type_inv.bytes k).fits) (sym c.in_ok-count.ensures)).1
    ∙ row_count-fits c.args.bytes.now c.in_ok-count.rest.now c.in_ok-count.count (omega arith) (sym c.in_ok-count.ensures)

pub returns-clause-rest : goal.returns-clause-rest
returns-clause-rest c =
    (vint-behind c.args.bytes.now c.in_ok-count.rest.now c.in_ok-count.count (λ k. (c.type_inv.bytes k).fits)
    (sym c.in_ok-count.ensures)).0
