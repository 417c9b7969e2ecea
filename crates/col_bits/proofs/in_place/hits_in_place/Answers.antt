use Rattle.std.proofs.Common.{ℕ, ◌+◌, ◌*◌, sym, ap, ◌∙◌, arith, Bool}
use Rattle.std.specs.Int.{is_in_range}
use Rattle.std.specs.Simd.Lanes.{mask_l}
use Rattle.col_bits.specs.Packed.{item}
use Rattle.col_bits.proofs.LaneLemmas.{bits_64, tests_moved}
use Rattle.col_bits.proofs.in_place.hits_in_place.Goals as goal

pub returns : goal.returns
returns g c =
    let x = c.args in
    let test : ℕ → Bool = λ v. is_in_range x.low (x.low + x.span) v in
    let all = bits_64 (λ k. test (item x.«data».now g.row.W (8 * x.group + k))) c.hits_of_16-a.result c.hits_of_16-b.result
    c.hits_of_16-c.result c.hits_of_16-d.result c.hits_of_16-a.ensures.value c.hits_of_16-b.ensures.value
    c.hits_of_16-c.ensures.value c.hits_of_16-d.ensures.value in
    omega (arith, all)
    ∙ ap mask_l (sym (tests_moved test (item x.«data».now g.row.W) (8 * x.group) 0 (8 * x.group) 64 (omega arith)))
