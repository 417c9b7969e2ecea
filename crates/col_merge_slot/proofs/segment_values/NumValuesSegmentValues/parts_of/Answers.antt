use Rattle.col_numbers.specs.NumValues.{num_values_of}
use Rattle.col_merge_slot.proofs.ReadLemmas.{same-part}
use Rattle.col_merge_slot.proofs.segment_values.NumValuesSegmentValues.parts_of.Goals as goal

pub returns-clause-part : goal.returns-clause-part
returns-clause-part g c =
    same-part num_values_of g.T.HasAssociatedColumnType.cell c.args.column c.in_ok-column.column _ _
    c.in_ok-column.ensures.cells c.into_parts.ensures.index c.into_parts.ensures.values
    c.into_parts.ensures.counted
