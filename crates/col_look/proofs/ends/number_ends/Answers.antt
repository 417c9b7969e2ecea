-- The bounds of numbers are the ends of their cells.
use Rattle.std.proofs.Common.{◌≡◌, ◌<◌, ◌+ℤ◌, pos, length, to_z, of_z, sym, ◌∙◌, arith}
use Rattle.std.specs.Int.{w128}
use Rattle.std.proofs.lemmas.Int.{ints}
use Rattle.col_numbers.specs.NumValues.{num_values_of}
use Rattle.col_facet.specs.declared.facet_cell.FacetCell.TheVariants as cells
use Rattle.col_look.proofs.ends.number_ends.Goals as goal
use Rattle.col_look.proofs.EndLemmas.{no-ends, number-ends}

pub returns-then-num_vals-eq0 : goal.returns-then-num_vals-eq0
returns-then-num_vals-eq0 g c =
    no-ends (λ x. cells.Num (g.T.LookNumber.number x)) (num_values_of c.args.values.now)
    (sym c.num_vals.ensures ∙ c.if-num_vals-eq0.true)

pub returns : goal.returns
returns g c =
    let xs = num_values_of c.args.values.now in
    let lo = c.min_value.result in
    let hi = c.max_value.result in
    let told = c.values_are_in_type.ensures in
    let some : 0 < length xs = omega (arith, c.num_vals.ensures, c.if-num_vals-eq0.false) in
    let low : to_z w128 (of_z w128 c.number_above.result) ≡ g.T.LookNumber.number lo +ℤ pos 0 =
    omega (arith, ints, c.number_above.ensures) in
    let high : to_z w128 (of_z w128 c.number_above-2.result) ≡ g.T.LookNumber.number hi +ℤ pos 0 =
    omega (arith, ints, c.number_above-2.ensures) in
    number-ends g.T.PartialOrd.partial_cmp g.T.MonotonicallyMappableToU64.in_type g.T.Default.is_default
    g.T.MonotonicallyMappableToU64.code g.T.LookNumber.number xs lo hi c.numbers_have_places.ensures told.values.each
    (told.values.least lo some c.min_value.ensures.value)
    (told.bounds lo hi c.min_value.ensures.value c.max_value.ensures.value) some _ _ low high
