use Rattle.std.proofs.Common.{length, take, refl, ap, ◌∙◌, arith, length-take-le}
use Rattle.std.proofs.lemmas.List.{length-map}
use Rattle.col_bits.proofs.PlaceLemmas.{places_ones}
use Rattle.col_bits.proofs.RowLemmas.{row_written, length-row}
use Rattle.col_bits.specs.Places.{row}
use Rattle.col_bits.proofs.places.write_byte_places.Goals as goal

pub write_eight-requires-clause-eight : goal.write_eight-requires-clause-eight
write_eight-requires-clause-eight c = ap length c.row_from.ensures ∙ (length-map (row c.args.byte) _ ∙ length-row c.args.byte)

pub returns-clause-within : goal.returns-clause-within
returns-clause-within c = omega (arith, places_ones 8 c.args.base c.args.byte c.ranges.byte.fits)

pub returns-clause-front : goal.returns-clause-front
returns-clause-front c =
    row_written c.args.base c.args.byte c.args.at _ (take c.args.at c.args.output.now) c.row_from.result _ c.requires.fits
    c.ranges.byte.fits (length-take-le c.args.at c.args.output.now (omega arith)) c.row_from.ensures c.write_eight.ensures refl
