use Rattle.std.proofs.Common.{ap, ◌∙◌}
use Rattle.col_common.specs.Ascending.{differences}
use Rattle.col_model.specs.Positions.{starts_of}
use Rattle.col_numbers.specs.Readers.{list_of}
use Rattle.col_index.proofs.OldStartLemmas.{old-below}
use Rattle.col_index.proofs.RepeatLaws.{old-without_repeats}
use Rattle.col_index.proofs.multivalued_index_v1.MultiValueIndexV1.start_index_column.Goals as goal

pub returns-clause-counts : goal.returns-clause-counts
returns-clause-counts c =
    old-without_repeats (list_of c.self.inside.start_index_column) c.self.invariant
    ∙ ap (λ xs. starts_of (differences xs)) c.self.view_is

pub returns-clause-fits : goal.returns-clause-fits
returns-clause-fits c = old-below (list_of c.self.inside.start_index_column) c.self.invariant
