use Rattle.std.proofs.Common.{ap, sym, ◌∙◌}
use Rattle.std.specs.List.{sum}
use Rattle.col_indexer.specs.Counted.{counts_in}
use Rattle.col_index.specs.Indexes.{shape_of}
use Rattle.col_index.proofs.CountLaws.{sum-set_counts}
use Rattle.col_indexer.proofs.UniformLemmas.{sum_as, sum-zeros, sum-ones}
use Rattle.col_indexer.proofs.stacked.num_values.Goals as goal

pub returns-in-Empty : goal.returns-in-Empty
returns-in-Empty c = sym (sum_as c.args.num_rows c.args.column_index.now _ _ c.in-Empty.is (sum-zeros c.args.num_rows))

pub returns-in-Full : goal.returns-in-Full
returns-in-Full c = sym (sum_as c.args.num_rows c.args.column_index.now _ _ c.in-Full.is (sum-ones c.args.num_rows))

pub returns-in-Optional : goal.returns-in-Optional
returns-in-Optional c =
    c.num_non_nulls.ensures
    ∙ sym (sum_as c.args.num_rows c.args.column_index.now _ _ c.in-Optional.is (sum-set_counts c.in-Optional.index c.rows_rise.ensures))

pub returns-in-Multivalued : goal.returns-in-Multivalued
returns-in-Multivalued c =
    c.last_start.ensures ∙ sym (ap (λ i. sum (counts_in c.args.num_rows (shape_of i))) c.in-Multivalued.is)
