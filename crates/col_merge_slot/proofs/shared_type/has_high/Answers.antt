use Rattle.col_numbers.specs.NumValues.{num_values_of}
use Rattle.col_merge_slot.proofs.BoundLemmas.{greatest-high}
use Rattle.col_merge_slot.proofs.shared_type.has_high.Goals as goal

pub returns : goal.returns
returns c =
    let column = c.args.column.now in
    greatest-high _ column.shape (num_values_of column.values) c.max_value.result c.values_are_counted.ensures
    c.max_value.ensures.value (λ e. e) c.cast_unsigned.result c.cast_unsigned.ensures
