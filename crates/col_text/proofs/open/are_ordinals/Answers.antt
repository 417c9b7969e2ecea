use Rattle.std.proofs.Common.{ℕ, length, nat_lt, Bool, ap, ◌∙◌, arith}
use Rattle.std.specs.List.{list_all}
use Rattle.col_column.proofs.CoercionLemmas.{bound_tells}
use Rattle.col_column.specs.NumValues.{num_values_of}
use Rattle.col_text.proofs.OpenTextLemmas.{below_greatest}
use Rattle.col_text.proofs.open.are_ordinals.Goals as goal

pub returns-else-num_vals-eq0 : goal.returns-else-num_vals-eq0
returns-else-num_vals-eq0 c =
    let count = length c.args.dictionary.now in
    let test : ℕ → Bool = λ n. nat_lt n count in
    let values = num_values_of c.values-values.result.now in
    let bound = c.max_value.result in
    let told = c.max_value.ensures.value in
    ap (nat_lt bound) c.num_terms.ensures
    ∙ bound_tells test values bound
    (λ e. absurd (omega (arith, ap length e, c.num_vals.ensures, c.if-num_vals-eq0.false))) told.value
    (λ t k d within. below_greatest bound _ count (told.above k d within) t)
    ∙ ap (λ v. list_all test (num_values_of v)) c.values-values.ensures
