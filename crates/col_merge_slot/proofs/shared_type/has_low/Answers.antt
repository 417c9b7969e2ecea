use Rattle.std.proofs.Common.{All, subst}
use Rattle.col_numbers.specs.NumValues.{num_values_of}
use Rattle.col_values.specs.Codes.{is_i64}
use Rattle.col_values.specs.Monotonic.{Passes}
use Rattle.col_merge_slot.proofs.BoundLemmas.{least-low}
use Rattle.col_merge_slot.proofs.shared_type.has_low.Goals as goal

pub returns : goal.returns
returns c =
    let column = c.args.column.now in
    let fit = subst (λ v. All (Passes is_i64) (num_values_of v)) c.values.ensures c.values_are_in_type.ensures.values.each in
    least-low _ column.shape (num_values_of column.values) c.min_value.result c.values_are_counted.ensures fit
    c.min_value.ensures.value (λ e. e)
