use Rattle.std.proofs.Common.{arith, ◌≡◌, w64, to_z, of_z}
use Rattle.std.proofs.lemmas.Int.{ints}
use Rattle.col_writer_file.proofs.NumberLemmas.{ties-written}
use Rattle.col_writer_file.proofs.numbers.serialize_ties.Goals as goal

pub returns : goal.returns
returns g c =
    let same : to_z w64 (of_z w64 c.args.start) ≡ c.args.start = omega (arith, ints) in
    ties-written _ _ _ c.args.column.now c.args.order.now c.args.start _ c.num_rows.result c.codes-codes.result.now
    c.requires.tied same c.num_rows.ensures c.codes-codes.ensures c.serialize_tie_column.ensures
