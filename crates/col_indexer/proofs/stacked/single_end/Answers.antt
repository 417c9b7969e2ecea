use Rattle.std.proofs.Common.{◌+◌, sym, arith}
use Rattle.col_indexer.proofs.UniformLemmas.{number_within, number_past}
use Rattle.col_indexer.proofs.stacked.single_end.Goals as goal

pub returns-then-place-from-clause-end : goal.returns-then-place-from-clause-end
returns-then-place-from-clause-end c =
    sym (number_past (c.args.num_rows + 1) (c.args.place + 1) (omega (arith, c.from.ensures, c.if-place-from.true)))

pub returns-clause-end : goal.returns-clause-end
returns-clause-end c =
    sym (number_within (c.args.num_rows + 1) (c.args.place + 1) (omega (arith, c.from.ensures, c.if-place-from.false)))
