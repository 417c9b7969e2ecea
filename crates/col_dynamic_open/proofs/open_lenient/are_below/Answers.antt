use Rattle.std.proofs.Common.{length, nat_lt, arith, ap}
use Rattle.col_dynamic.proofs.NumbersCoercionLemmas.{bound_tells}
use Rattle.col_dynamic.specs.NumValues.{num_values_of}
use Rattle.col_dynamic.proofs.OpenTextLemmas.{below_greatest}
use Rattle.col_dynamic_open.proofs.open_lenient.are_below.Goals as goal

pub returns-else-num_vals-eq0 : goal.returns-else-num_vals-eq0
returns-else-num_vals-eq0 c =
    let end_ = c.args.bound in
    let values = num_values_of c.args.values.now in
    let greatest = c.max_value.result in
    let told = c.max_value.ensures.value in
    bound_tells (λ n. nat_lt n end_) values greatest
    (λ e. absurd (omega (arith, ap length e, c.num_vals.ensures, c.if-num_vals-eq0.false))) told.value
    (λ t k d within. below_greatest greatest _ end_ (told.above k d within) t)
