use Rattle.std.proofs.Common.{ap, arith}
use Rattle.col_model.specs.Positions.{count_in}
use Rattle.col_index.specs.Indexes.{shape_of}
use Rattle.col_indexer.proofs.TightestLemmas.{set-few}
use Rattle.col_indexer.proofs.merge.is_set.Goals as goal

pub returns-in-Optional : goal.returns-in-Optional
returns-in-Optional c = λ e row.
    omega (arith, ap (λ i. count_in (shape_of i) row) c.in-Optional.is, set-few c.in-Optional.index c.rows_rise.ensures row)
