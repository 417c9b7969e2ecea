use Rattle.std.proofs.Common.{subst, sym}
use Rattle.col_index.specs.MultiValues.{value_counts_of}
use Rattle.col_numbers.specs.Readers.{list_of}
use Rattle.col_merge_column.proofs.SingleLemmas.{single-row, steps-row}
use Rattle.col_merge_column.specs.Limits.{HasAtMost}
use Rattle.col_merge_column.proofs.cell_counts.most_in_row.Goals as goal

pub returns-in-Optional : goal.returns-in-Optional
returns-in-Optional c = subst (HasAtMost 1) (sym c.in-Optional.is) (single-row c.in-Optional.index)

pub returns-in-Multivalued : goal.returns-in-Multivalued
returns-in-Multivalued c =
    subst (HasAtMost c.greatest_step.result) (sym c.in-Multivalued.is)
    (steps-row c.greatest_step.result (value_counts_of c.in-Multivalued.index)
    (list_of c.get_start_index_column.result.now) c.get_start_index_column.ensures.counts
    c.greatest_step.ensures)
