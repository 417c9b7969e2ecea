use Rattle.std.proofs.Common.{◌≡◌, All, true, sym, subst}
use Rattle.col_model.specs.ColumnType as types
use Rattle.col_numbers.specs.NumValues.{num_values_of}
use Rattle.col_values.specs.Codes.{is_i64}
use Rattle.col_values.specs.Monotonic.{Passes}
use Rattle.col_merge_slot.specs.Segments.{is_read_as}
use Rattle.col_merge_slot.proofs.ReadLemmas.{is-datetime, times-read}
use Rattle.col_merge_slot.proofs.segment_values.DateTimeFromDynamic.numbers_of.Goals as goal

pub returns-clause-read : goal.returns-clause-read
returns-clause-read c =
    let d = c.in_ok-column.column in
    let all = subst (λ v. All (Passes is_i64) (num_values_of v)) c.values.ensures c.values_are_in_type.ensures.values.each in
    let read = times-read d.shape (num_values_of d.values) c.values_are_counted.ensures all in
    subst (λ column. true ≡ is_read_as types.datetime column) (is-datetime c.args.column d (sym c.in_ok-column.ensures)) (sym read)
