use Rattle.std.proofs.Common.{sym, ap, arith}
use Rattle.col_file.proofs.PlaceLemmas.{place-within}
use Rattle.col_file.proofs.reader.ColumnarReader.read_column.Goals as goal

pub read_part-requires-clause-ordered : goal.read_part-requires-clause-ordered
read_part-requires-clause-ordered g c =
    let place = place-within c.args.handle.now (g.F.FileHandle.seen c.self.inside.file).size c.self.inside.keys.entries
    (sym c.if-not-has_entry.ensures) c.self.invariant.within in
    let range = c.byte_range-start.ensures in
    omega (arith, place.0, ap (λ p. p.0) range, ap (λ p. p.1) range)

pub read_part-requires-clause-within : goal.read_part-requires-clause-within
read_part-requires-clause-within g c =
    let place = place-within c.args.handle.now (g.F.FileHandle.seen c.self.inside.file).size c.self.inside.keys.entries
    (sym c.if-not-has_entry.ensures) c.self.invariant.within in
    let range = c.byte_range-start.ensures in
    omega (arith, place.1, ap (λ p. p.1) range)
