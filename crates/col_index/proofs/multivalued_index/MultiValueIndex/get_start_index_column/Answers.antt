use Rattle.std.proofs.Common.{sym, ap, ◌∙◌}
use Rattle.col_model.specs.Index.{offset_counts}
use Rattle.col_model.specs.Positions.{starts_of}
use Rattle.col_index.specs.MultiValues.{value_counts_of}
use Rattle.col_index.specs.Offsets.{without_repeats}
use Rattle.col_index.proofs.RepeatLaws.{starts-without_repeats}
use Rattle.col_index.proofs.multivalued_index.MultiValueIndex.get_start_index_column.Goals as goal

pub returns-in-MultiValueIndexV2-clause-counts : goal.returns-in-MultiValueIndexV2-clause-counts
returns-in-MultiValueIndexV2-clause-counts c =
    ap without_repeats c.start_index_column-in-MultiValueIndexV2.ensures.counts
    ∙ starts-without_repeats (offset_counts c.in-MultiValueIndexV2.index)
    ∙ ap (λ i. starts_of (value_counts_of i)) (sym c.in-MultiValueIndexV2.is)
