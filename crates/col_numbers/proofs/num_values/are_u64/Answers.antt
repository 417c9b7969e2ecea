use Rattle.std.proofs.Common.{ap, ◌∙◌, arith}
use Rattle.std.proofs.lemmas.Bool.Decides.{nat_tests}
use Rattle.std.proofs.lemmas.Int.{ints}
use Rattle.col_numbers.specs.Coercions.{is_not_negative}
use Rattle.col_numbers.specs.NumValues.{num_values_of}
use Rattle.col_numbers.proofs.CoercionLemmas.{bound_tells, above_fits}
use Rattle.col_numbers.proofs.num_values.are_u64.Goals as goal

pub returns : goal.returns
returns c =
    let values = num_values_of c.args.values.now in
    let bound = c.min_value.result in
    let told = c.min_value.ensures.value in
    grind (arith, ints, nat_tests)
    ∙ bound_tells is_not_negative values bound (λ e. ap is_not_negative (told.without_values e)) told.value
    (λ t k d within. above_fits bound _ (told.below k d within) t)
