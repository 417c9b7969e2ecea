-- Cells and the values that they stand for.
use Rattle.std.proofs.Common.{◌&&◌, Option, refl, arith}
use Rattle.std.proofs.lemmas.Bool.Decides.{nat_tests}
use Rattle.std.proofs.lemmas.Int.{ints}
use Rattle.std.specs.declared.cmp.Ordering.{Ordering}
use Rattle.col_model.specs.ColumnType as types
use Rattle.col_model.specs.Table.{Cell}
use Rattle.col_types.specs.Cells.{AreCells}
use Rattle.col_types.specs.Laws.{LieBetweenAlike, AcceptedFit}

-- a cell lies between two exactly where its value lies between theirs
pub cells_between : {T : Type 0} {partial_cmp : T → T → Option Ordering} {cell : T → Cell} →
    AreCells partial_cmp cell → LieBetweenAlike partial_cmp cell
cells_between laws low high v = λ i. laws.at_most low v i && laws.at_most v high i

-- what is accepted as an i64 fits one
pub accepted_fits_i64 : AcceptedFit
accepted_fits_i64 (types.u64, z) h = grind (arith, ints, nat_tests)
accepted_fits_i64 (types.i64, z) h = refl
accepted_fits_i64 (types.bytes, z) h = refl
accepted_fits_i64 (types.str, z) h = refl
accepted_fits_i64 (types.bool, z) h = refl
accepted_fits_i64 (types.ip, z) h = refl
accepted_fits_i64 (types.datetime, z) h = refl
