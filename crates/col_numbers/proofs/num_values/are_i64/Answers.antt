use Rattle.std.proofs.Common.{ap, ◌∙◌, arith}
use Rattle.std.proofs.lemmas.Bool.Decides.{nat_tests}
use Rattle.col_numbers.specs.Coercions.{fits_i64}
use Rattle.col_numbers.specs.NumValues.{num_values_of}
use Rattle.col_numbers.proofs.CoercionLemmas.{bound_tells, below_fits}
use Rattle.col_numbers.proofs.num_values.are_i64.Goals as goal

pub returns : goal.returns
returns c =
    let values = num_values_of c.args.values.now in
    let bound = c.max_value.result in
    let told = c.max_value.ensures.value in
    grind (arith, nat_tests, c.cast_unsigned.ensures)
    ∙ bound_tells fits_i64 values bound (λ e. ap fits_i64 (told.without_values e)) told.value
    (λ t k d within. below_fits bound _ (told.above k d within) t)
