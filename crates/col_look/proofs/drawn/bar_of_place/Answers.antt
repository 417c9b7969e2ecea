-- A bar begins at its place, and ends where it is full, or at the distance.
use Rattle.std.proofs.Common.{◌≡◌, ◌*◌, ◌≤◌, ◌+ℤ◌, pos, to_z, of_z, arith}
use Rattle.std.proofs.Math.Nat.{le-div_iff_mul-le}
use Rattle.std.specs.Int.{w128}
use Rattle.std.proofs.lemmas.Int.{ints}
use Rattle.col_look.specs.Bars.{bar_end}
use Rattle.col_look.proofs.drawn.bar_of_place.Goals as goal

pub returns : goal.returns
returns g c =
    let d = c.args.distance in
    let w = c.args.width in
    let start = c.args.place * w in
    let least = g.T.LookNumber.number c.args.least in
    let low : start ≤ d = (le-div_iff_mul-le c.requires.wide).0 c.requires.within in
    let first : to_z w128 (of_z w128 c.number_above.result) ≡ least +ℤ pos start = omega (arith, ints, c.number_above.ensures) in
    let last : to_z w128 (of_z w128 c.number_above-2.result) ≡ least +ℤ pos (bar_end d w c.args.place) =
    omega (arith, ints, c.number_above-2.ensures, c.min.ensures, low, c.requires.wide) in
    λ i. record { first = first i; last = last i; count = c.args.count }
