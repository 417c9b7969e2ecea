-- What the fields of a column hold.
use Rattle.std.proofs.Common.{◌≡◌, ℕ, zero, suc, ◌+◌, ◌≤◌, true, List, [], ◌∷◌, ◌++◌, length, get_or, refl, arith}
use Rattle.std.specs.List.{list_all, AllZip}
use Rattle.std.proofs.lemmas.Bool.{and_parts, and_from}
use Rattle.col_model.specs.ColumnType.{ColumnType}
use Rattle.col_model.specs.Limits.{is_of_type}
use Rattle.col_model.specs.Sound.{are_bytes, has_bytes}
use Rattle.col_model.specs.Table.{Cell}
use Rattle.col_model.specs.U64List.{joined_lists}
use Rattle.col_csv.proofs.FieldLemmas.{AreCellsOf, field-held, field-of_type, weights}
use Rattle.col_csv.proofs.RecordLemmas.{size, total}

-- a field is part of its record
size-at : (fields : List (List ℕ)) (i : ℕ) → suc (length (get_or fields i [])) ≤ size fields
size-at [] i = omega arith
size-at (f ∷ fields) zero = omega arith
size-at (f ∷ fields) (suc i) = let later = size-at fields i in omega (arith, later)

-- and of bytes, where each is
bytes-at : (fields : List (List ℕ)) (i : ℕ) → list_all are_bytes fields ≡ true → are_bytes (get_or fields i []) ≡ true
bytes-at [] i e = refl
bytes-at (f ∷ fields) zero e = (and_parts (are_bytes f) (list_all are_bytes fields) e).0
bytes-at (f ∷ fields) (suc i) e = bytes-at fields i (and_parts (are_bytes f) (list_all are_bytes fields) e).1

-- how much two lists hold
pub weights-append : (xs ys : List Cell) → weights (xs ++ ys) ≡ weights xs + weights ys
weights-append [] ys = omega arith
weights-append (x ∷ xs) ys = let later = weights-append xs ys in omega (arith, later)

-- the cells that the fields of a column stand for
pub record AreHeld (t : ColumnType) (rows : List (List (List ℕ))) (found : List (List Cell)) : Type 0 where
  pub long : length found ≡ length rows
  pub held : weights (joined_lists found) ≤ total rows
  pub bytes : list_all (list_all has_bytes) found ≡ true
  pub of_type : list_all (list_all (is_of_type t)) found ≡ true

-- the fields of a column hold no more than the records
pub are-held : (a : ℕ) (t : ColumnType) (rows : List (List (List ℕ))) (found : List (List Cell))
    → AllZip (λ fields cells. AreCellsOf t (get_or fields a []) cells) rows found → list_all (list_all are_bytes) rows ≡ true
    → AreHeld t rows found
are-held a t [] [] h e = record { long = refl; held = omega arith; bytes = refl; of_type = refl }
are-held a t [] (cells ∷ found) h e = absurd h
are-held a t (fields ∷ rows) [] h e = absurd h
are-held a t (fields ∷ rows) (cells ∷ found) h e =
    let parts = and_parts (list_all are_bytes fields) (list_all (list_all are_bytes) rows) e in
    let field = get_or fields a [] in
    let one = field-held t field cells h.0 (bytes-at fields a parts.0) in
    let later = are-held a t rows found h.1 parts.1 in
    let x = size-at fields a in
    let y = one.0 in
    let z = later.held in
    let n = later.long in
    let w = weights-append cells (joined_lists found) in
    record {
      long = omega (arith, n);
      held = omega (arith, x, y, z, w);
      bytes = and_from _ _ one.1 later.bytes;
      of_type = and_from _ _ (field-of_type t field cells h.0) later.of_type;
    }
