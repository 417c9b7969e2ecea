-- The types whose values stand for cells.
use Rattle.std.proofs.Common.{◌≡◌, Bool, true, false, Some, refl, arith}
use Rattle.std.specs.Ordering.{int_cmp, bool_cmp, partial_le}
use Rattle.std.proofs.lemmas.Bool.Decides.{nat_tests}
use Rattle.std.proofs.lemmas.Int.{ints}
use Rattle.col_model.specs.Table.{number}
use Rattle.col_model.specs.Lookup.{is_at_most}
use Rattle.col_model.specs.Codes.{number_cmp}
use Rattle.col_model.specs.Cells.{AreCells, unsigned_cell, bool_cell}

-- numbers without a sign
pub unsigned_cells : AreCells number_cmp unsigned_cell
unsigned_cells = record { at_most = λ a b. grind (arith, nat_tests) }

-- numbers with one
pub signed_cells : AreCells (λ x y. Some (int_cmp x y)) number
signed_cells = record { at_most = λ a b. grind (arith, ints, nat_tests) }

bool_at_most : (a b : Bool) →
    is_at_most (bool_cell a) (bool_cell b) ≡ partial_le (λ x y. Some (bool_cmp x y)) a b
bool_at_most false false = refl
bool_at_most false true = refl
bool_at_most true false = refl
bool_at_most true true = refl

-- false before true
pub bool_cells : AreCells (λ x y. Some (bool_cmp x y)) bool_cell
bool_cells = record { at_most = bool_at_most }
