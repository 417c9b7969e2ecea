use Rattle.std.proofs.Common.{ℕ, ◌+◌, ◌%◌, ap, refl, arith, bit_and}
use lib.Bits.{and_le_l}
use Rattle.col_bits.proofs.PlaceLemmas.{places_ones}
use Rattle.col_bits.proofs.FewPlaceLemmas.{few_places, place_fits, less_one}
use Rattle.col_bits.proofs.places.write_few_places.Goals as goal

pub returns-clause-within : goal.returns-clause-within
returns-clause-within c = omega (arith, places_ones 64 c.args.base c.args.bits c.ranges.bits.fits)

pub returns-clause-front : goal.returns-clause-front
returns-clause-front c =
    let a = c.args in
    let small = c.ranges.bits.fits in
    let less : ℕ = (a.bits + 18446744073709551615) % 18446744073709551616 in
    let later : ℕ = bit_and a.bits less in
    few_places a.base a.bits later _ _ a.at _ a.output.now (record {
      small = small;
      few = omega (arith, places_ones 64 a.base a.bits small, c.requires.few);
      rest = λ some. ap (bit_and a.bits) (less_one a.bits some small);
      first = λ some. place_fits a.base a.bits c.requires.fits small some;
      second = λ some. place_fits a.base later c.requires.fits (omega (arith, small, and_le_l a.bits less)) some;
    }) (omega arith) refl
