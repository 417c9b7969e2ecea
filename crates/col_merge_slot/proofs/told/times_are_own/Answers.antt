use Rattle.std.proofs.Common.{All, subst}
use Rattle.col_values.specs.Codes.{is_i64}
use Rattle.col_values.specs.Monotonic.{Passes}
use Rattle.col_numbers.specs.NumValues.{num_values_of}
use Rattle.col_merge_slot.proofs.ReadLemmas.{times-read}
use Rattle.col_merge_slot.proofs.told.times_are_own.Goals as goal

pub returns : goal.returns
returns c =
    let column = c.args.column.now in
    times-read column.shape (num_values_of column.values) c.values_are_counted.ensures
    (subst (λ v. All (Passes is_i64) (num_values_of v)) c.values.ensures c.values_are_in_type.ensures.values.each)
