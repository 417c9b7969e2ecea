use Rattle.std.proofs.Common.{arith}
use Rattle.col_facet.proofs.numbers.table_len.Goals as goal

pub returns : goal.returns
returns g c =
    let places = c.cells_have_places.ensures in
    let distance = c.in_ok-span.ensures {u = tt} in
    λ x low high. record {
      from = places.from c.args.least x c.known.ensures low;
      below = omega (arith, places.below x c.args.greatest high, c.to_u64.ensures, c.to_u64-2.ensures, distance.0, distance.1);
      stands = places.stands c.args.least x c.known.ensures low;
    }
